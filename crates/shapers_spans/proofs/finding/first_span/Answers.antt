use Rattle.std.proofs.Common.{◌≡◌, ◌∙◌, ℕ, List, get_or, ap, false, refl, rules, subst, sym, inl, inr, ⊎_elim, arith, ◌-◌}
use Rattle.shapers_buffer.specs.Glyph.{default_glyph}
use Rattle.shapers_spans.specs.Grammar.{IsKind}
use Rattle.shapers_spans.specs.declared.finding.Joiners.{Joiners}
use Rattle.shapers_spans.proofs.Cover.{opens_within}
use Rattle.shapers_spans.proofs.Walking.{Ways, Leads, Task, Ready, GlyphStep, Walked, noted, walking_start, walking_some, walking_on, walking_dead, walking_all, walking_stuck}
use Rattle.shapers_spans.proofs.finding.first_span.Goals as goal

pub loop-n-init : goal.loop-n-init
loop-n-init g c =
    let w : Ways = record {
      grammar = g.M.Machine.grammar c.args.machine.now;
      ends = g.M.Machine.ends c.args.machine.now;
      first = g.M.Machine.first c.args.machine.now;
      is_joiner = g.M.Machine.is_joiner c.args.machine.now;
      rank = g.M.Machine.rank c.args.machine.now;
      waits = g.M.Machine.waits c.args.machine.now;
      cycles = g.M.Machine.cycles c.args.machine.now;
      begun = g.M.Machine.begun c.args.machine.now;
      cycled = g.M.Machine.cycled c.args.machine.now;
    } in
    let t : Task =
    record {
      ways = w;
      gs = c.args.glyphs.now;
      len = c.args.joiners.now.end
          - c.args.start;
      stuck = c.args.joiners.now.stuck;
      watch = c.args.count.now;
    } in
    let ready : Ready t = record {
      nothing = c.start-state.ensures.passes;
      some = c.requires.some;
      read = c.requires.read;
      calm = subst (λ q. w.waits q ≡ false) c.start-state.ensures.first c.start-state.ensures.waits;
      knows = c.requires.joined;
    } in
    record {
      state = c.start-state.ensures.state;
      walking = walking_start t c.start-state.result _ ready c.start-state.ensures.first c.next_read.ensures.place
          c.other.ensures.kind c.start-state.ensures.alive c.start-state.ensures.rank;
    }

pub loop-n-preserved-in-Some : goal.loop-n-preserved-in-Some
loop-n-preserved-in-Some g c =
    let w : Ways = record {
      grammar = g.M.Machine.grammar c.args.machine.now;
      ends = g.M.Machine.ends c.args.machine.now;
      first = g.M.Machine.first c.args.machine.now;
      is_joiner = g.M.Machine.is_joiner c.args.machine.now;
      rank = g.M.Machine.rank c.args.machine.now;
      waits = g.M.Machine.waits c.args.machine.now;
      cycles = g.M.Machine.cycles c.args.machine.now;
      begun = g.M.Machine.begun c.args.machine.now;
      cycled = g.M.Machine.cycled c.args.machine.now;
    } in
    let t : Task =
    record {
      ways = w;
      gs = c.args.glyphs.now;
      len = c.args.joiners.now.end
          - c.args.start;
      stuck = c.args.joiners.now.stuck;
      watch = c.args.count.now;
    } in
    let ready : Ready t = record {
      nothing = c.start-state.ensures.passes;
      some = c.requires.some;
      read = c.requires.read;
      calm = subst (λ q. w.waits q ≡ false) c.start-state.ensures.first c.start-state.ensures.waits;
      knows = c.requires.joined;
    } in
    let leads : Leads w c.loop-n.state (get_or c.args.glyphs.now c.loop-n.n default_glyph).category c.next-state.result
    = record {
      step = c.next-state.ensures.ends;
      falls = c.next-state.ensures.falls;
      low = c.next-state.ensures.rank;
      one = c.next-state.ensures.one;
      begun = c.next-state.ensures.begun;
      two = c.next-state.ensures.two;
      same = c.next-state.ensures.same;
      waiting = c.next-state.ensures.waits;
    } in
    let one_more = noted c.loop-n.count c.read.new.self c.loop-n.n c.read.ensures in
    let step : GlyphStep t c.loop-n.n c.loop-n.state c.next-state.result c.next_read-n.result = record {
      in_range = c.loop-n-test.true;
      next_is = c.next_read-n.ensures.place;
      within = c.next_read-n.ensures.within;
      leads = leads;
      alive = c.is_dead.ensures.alive c.if-is_dead.false;
    } in
    record {
      state = c.next-state.ensures.state;
      walking = walking_some t c.loop-n.n c.loop-n.state c.next-state.result c.next_read-n.result c.in-Some.kind
          c.loop-n.span _ (c.loop-n.joiners.end - c.args.start) c.loop-n.joiners.stuck c.loop-n.count c.read.new.self
          ready c.loop-n.invariant.walking one_more step (sym c.kind.ensures ∙ c.in-Some.is) refl refl;
    }

pub loop-n-preserved : goal.loop-n-preserved
loop-n-preserved g c =
    let w : Ways = record {
      grammar = g.M.Machine.grammar c.args.machine.now;
      ends = g.M.Machine.ends c.args.machine.now;
      first = g.M.Machine.first c.args.machine.now;
      is_joiner = g.M.Machine.is_joiner c.args.machine.now;
      rank = g.M.Machine.rank c.args.machine.now;
      waits = g.M.Machine.waits c.args.machine.now;
      cycles = g.M.Machine.cycles c.args.machine.now;
      begun = g.M.Machine.begun c.args.machine.now;
      cycled = g.M.Machine.cycled c.args.machine.now;
    } in
    let t : Task =
    record {
      ways = w;
      gs = c.args.glyphs.now;
      len = c.args.joiners.now.end
          - c.args.start;
      stuck = c.args.joiners.now.stuck;
      watch = c.args.count.now;
    } in
    let ready : Ready t = record {
      nothing = c.start-state.ensures.passes;
      some = c.requires.some;
      read = c.requires.read;
      calm = subst (λ q. w.waits q ≡ false) c.start-state.ensures.first c.start-state.ensures.waits;
      knows = c.requires.joined;
    } in
    let leads : Leads w c.loop-n.state (get_or c.args.glyphs.now c.loop-n.n default_glyph).category c.next-state.result
    = record {
      step = c.next-state.ensures.ends;
      falls = c.next-state.ensures.falls;
      low = c.next-state.ensures.rank;
      one = c.next-state.ensures.one;
      begun = c.next-state.ensures.begun;
      two = c.next-state.ensures.two;
      same = c.next-state.ensures.same;
      waiting = c.next-state.ensures.waits;
    } in
    let one_more = noted c.loop-n.count c.read.new.self c.loop-n.n c.read.ensures in
    let step : GlyphStep t c.loop-n.n c.loop-n.state c.next-state.result c.next_read-n.result = record {
      in_range = c.loop-n-test.true;
      next_is = c.next_read-n.ensures.place;
      within = c.next_read-n.ensures.within;
      leads = leads;
      alive = c.is_dead.ensures.alive c.if-is_dead.false;
    } in
    record {
      state = c.next-state.ensures.state;
      walking = walking_on t c.loop-n.n c.loop-n.state c.next-state.result c.next_read-n.result
          c.in-Some-behind_joiners.place c.loop-n.span (c.loop-n.joiners.end - c.args.start) c.loop-n.joiners.stuck
          (c.behind_joiners.new.joiners.end - c.args.start) c.behind_joiners.new.joiners.stuck c.loop-n.count
          c.read.new.self
          ready c.loop-n.invariant.walking one_more step (sym c.kind.ensures ∙ c.in-None.is)
          c.behind_joiners.ensures.waits c.behind_joiners.ensures.stays
          (⊎_elim (λ h. inl (
            h.0,
            h.1,
            ap (λ (j : Joiners). j.end - c.args.start) h.2,
            ap (λ (j : Joiners). j.stuck)
                h.2,
          ))
          (λ h. inr (h.0, h.1, h.2, h.3, λ le e. h.4 (let is = c.next_read-n.ensures.place in omega (arith, le, is)) e))
          c.in-Some-behind_joiners.ensures.goes);
    }

pub returns-then-is_dead-clause-opens : goal.returns-then-is_dead-clause-opens
returns-then-is_dead-clause-opens g c =
    let w : Ways = record {
      grammar = g.M.Machine.grammar c.args.machine.now;
      ends = g.M.Machine.ends c.args.machine.now;
      first = g.M.Machine.first c.args.machine.now;
      is_joiner = g.M.Machine.is_joiner c.args.machine.now;
      rank = g.M.Machine.rank c.args.machine.now;
      waits = g.M.Machine.waits c.args.machine.now;
      cycles = g.M.Machine.cycles c.args.machine.now;
      begun = g.M.Machine.begun c.args.machine.now;
      cycled = g.M.Machine.cycled c.args.machine.now;
    } in
    let t : Task =
    record {
      ways = w;
      gs = c.args.glyphs.now;
      len = c.args.joiners.now.end
          - c.args.start;
      stuck = c.args.joiners.now.stuck;
      watch = c.args.count.now;
    } in
    let ready : Ready t = record {
      nothing = c.start-state.ensures.passes;
      some = c.requires.some;
      read = c.requires.read;
      calm = subst (λ q. w.waits q ≡ false) c.start-state.ensures.first c.start-state.ensures.waits;
      knows = c.requires.joined;
    } in
    let leads : Leads w c.loop-n.state (get_or c.args.glyphs.now c.loop-n.n default_glyph).category c.next-state.result
    = record {
      step = c.next-state.ensures.ends;
      falls = c.next-state.ensures.falls;
      low = c.next-state.ensures.rank;
      one = c.next-state.ensures.one;
      begun = c.next-state.ensures.begun;
      two = c.next-state.ensures.two;
      same = c.next-state.ensures.same;
      waiting = c.next-state.ensures.waits;
    } in
    let one_more = noted c.loop-n.count c.read.new.self c.loop-n.n c.read.ensures in
    let kinds : (u : List ℕ) → IsKind w.grammar u (w.ends w.first u) =
    (λ u. subst (λ q. IsKind w.grammar u (w.ends q u)) c.start-state.ensures.first
    (c.start-state.ensures.kinds u)) in
    (walking_dead t c.loop-n.n c.loop-n.state c.next-state.result c.loop-n.span (c.loop-n.joiners.end - c.args.start)
    c.loop-n.joiners.stuck c.loop-n.count c.read.new.self
    ready kinds c.loop-n.invariant.walking one_more c.loop-n-test.true leads
    (c.is_dead.ensures.dead (search (rules, c.if-is_dead.true)))).opens

pub returns-then-is_dead-clause-joined : goal.returns-then-is_dead-clause-joined
returns-then-is_dead-clause-joined g c =
    let w : Ways = record {
      grammar = g.M.Machine.grammar c.args.machine.now;
      ends = g.M.Machine.ends c.args.machine.now;
      first = g.M.Machine.first c.args.machine.now;
      is_joiner = g.M.Machine.is_joiner c.args.machine.now;
      rank = g.M.Machine.rank c.args.machine.now;
      waits = g.M.Machine.waits c.args.machine.now;
      cycles = g.M.Machine.cycles c.args.machine.now;
      begun = g.M.Machine.begun c.args.machine.now;
      cycled = g.M.Machine.cycled c.args.machine.now;
    } in
    let t : Task =
    record {
      ways = w;
      gs = c.args.glyphs.now;
      len = c.args.joiners.now.end
          - c.args.start;
      stuck = c.args.joiners.now.stuck;
      watch = c.args.count.now;
    } in
    let ready : Ready t = record {
      nothing = c.start-state.ensures.passes;
      some = c.requires.some;
      read = c.requires.read;
      calm = subst (λ q. w.waits q ≡ false) c.start-state.ensures.first c.start-state.ensures.waits;
      knows = c.requires.joined;
    } in
    let leads : Leads w c.loop-n.state (get_or c.args.glyphs.now c.loop-n.n default_glyph).category c.next-state.result
    = record {
      step = c.next-state.ensures.ends;
      falls = c.next-state.ensures.falls;
      low = c.next-state.ensures.rank;
      one = c.next-state.ensures.one;
      begun = c.next-state.ensures.begun;
      two = c.next-state.ensures.two;
      same = c.next-state.ensures.same;
      waiting = c.next-state.ensures.waits;
    } in
    let one_more = noted c.loop-n.count c.read.new.self c.loop-n.n c.read.ensures in
    let kinds : (u : List ℕ) → IsKind w.grammar u (w.ends w.first u) =
    (λ u. subst (λ q. IsKind w.grammar u (w.ends q u)) c.start-state.ensures.first
    (c.start-state.ensures.kinds u)) in
    (walking_dead t c.loop-n.n c.loop-n.state c.next-state.result c.loop-n.span (c.loop-n.joiners.end - c.args.start)
    c.loop-n.joiners.stuck c.loop-n.count c.read.new.self
    ready kinds c.loop-n.invariant.walking one_more c.loop-n-test.true leads
    (c.is_dead.ensures.dead (search (rules, c.if-is_dead.true)))).known

pub returns-then-is_dead-clause-counted : goal.returns-then-is_dead-clause-counted
returns-then-is_dead-clause-counted g c =
    let w : Ways = record {
      grammar = g.M.Machine.grammar c.args.machine.now;
      ends = g.M.Machine.ends c.args.machine.now;
      first = g.M.Machine.first c.args.machine.now;
      is_joiner = g.M.Machine.is_joiner c.args.machine.now;
      rank = g.M.Machine.rank c.args.machine.now;
      waits = g.M.Machine.waits c.args.machine.now;
      cycles = g.M.Machine.cycles c.args.machine.now;
      begun = g.M.Machine.begun c.args.machine.now;
      cycled = g.M.Machine.cycled c.args.machine.now;
    } in
    let t : Task =
    record {
      ways = w;
      gs = c.args.glyphs.now;
      len = c.args.joiners.now.end
          - c.args.start;
      stuck = c.args.joiners.now.stuck;
      watch = c.args.count.now;
    } in
    let ready : Ready t = record {
      nothing = c.start-state.ensures.passes;
      some = c.requires.some;
      read = c.requires.read;
      calm = subst (λ q. w.waits q ≡ false) c.start-state.ensures.first c.start-state.ensures.waits;
      knows = c.requires.joined;
    } in
    let leads : Leads w c.loop-n.state (get_or c.args.glyphs.now c.loop-n.n default_glyph).category c.next-state.result
    = record {
      step = c.next-state.ensures.ends;
      falls = c.next-state.ensures.falls;
      low = c.next-state.ensures.rank;
      one = c.next-state.ensures.one;
      begun = c.next-state.ensures.begun;
      two = c.next-state.ensures.two;
      same = c.next-state.ensures.same;
      waiting = c.next-state.ensures.waits;
    } in
    let one_more = noted c.loop-n.count c.read.new.self c.loop-n.n c.read.ensures in
    let kinds : (u : List ℕ) → IsKind w.grammar u (w.ends w.first u) =
    (λ u. subst (λ q. IsKind w.grammar u (w.ends q u)) c.start-state.ensures.first
    (c.start-state.ensures.kinds u)) in
    (walking_dead t c.loop-n.n c.loop-n.state c.next-state.result c.loop-n.span (c.loop-n.joiners.end - c.args.start)
    c.loop-n.joiners.stuck c.loop-n.count c.read.new.self
    ready kinds c.loop-n.invariant.walking one_more c.loop-n-test.true leads
    (c.is_dead.ensures.dead (search (rules, c.if-is_dead.true)))).counted

pub returns-in-None-behind_joiners-clause-opens : goal.returns-in-None-behind_joiners-clause-opens
returns-in-None-behind_joiners-clause-opens g c =
    let w : Ways = record {
      grammar = g.M.Machine.grammar c.args.machine.now;
      ends = g.M.Machine.ends c.args.machine.now;
      first = g.M.Machine.first c.args.machine.now;
      is_joiner = g.M.Machine.is_joiner c.args.machine.now;
      rank = g.M.Machine.rank c.args.machine.now;
      waits = g.M.Machine.waits c.args.machine.now;
      cycles = g.M.Machine.cycles c.args.machine.now;
      begun = g.M.Machine.begun c.args.machine.now;
      cycled = g.M.Machine.cycled c.args.machine.now;
    } in
    let t : Task =
    record {
      ways = w;
      gs = c.args.glyphs.now;
      len = c.args.joiners.now.end
          - c.args.start;
      stuck = c.args.joiners.now.stuck;
      watch = c.args.count.now;
    } in
    let ready : Ready t = record {
      nothing = c.start-state.ensures.passes;
      some = c.requires.some;
      read = c.requires.read;
      calm = subst (λ q. w.waits q ≡ false) c.start-state.ensures.first c.start-state.ensures.waits;
      knows = c.requires.joined;
    } in
    let leads : Leads w c.loop-n.state (get_or c.args.glyphs.now c.loop-n.n default_glyph).category c.next-state.result
    = record {
      step = c.next-state.ensures.ends;
      falls = c.next-state.ensures.falls;
      low = c.next-state.ensures.rank;
      one = c.next-state.ensures.one;
      begun = c.next-state.ensures.begun;
      two = c.next-state.ensures.two;
      same = c.next-state.ensures.same;
      waiting = c.next-state.ensures.waits;
    } in
    let one_more = noted c.loop-n.count c.read.new.self c.loop-n.n c.read.ensures in
    let step : GlyphStep t c.loop-n.n c.loop-n.state c.next-state.result c.next_read-n.result = record {
      in_range = c.loop-n-test.true;
      next_is = c.next_read-n.ensures.place;
      within = c.next_read-n.ensures.within;
      leads = leads;
      alive = c.is_dead.ensures.alive c.if-is_dead.false;
    } in
    let kinds : (u : List ℕ) → IsKind w.grammar u (w.ends w.first u) =
    (λ u. subst (λ q. IsKind w.grammar u (w.ends q u)) c.start-state.ensures.first
    (c.start-state.ensures.kinds u)) in
    let stops = c.in-None-behind_joiners.ensures.stops in
    (subst (λ (j : Joiners). Walked t c.loop-n.span (j.end - c.args.start) j.stuck c.read.new.self) (sym stops.3)
    (walking_stuck t c.loop-n.n c.loop-n.state c.next-state.result c.next_read-n.result c.loop-n.span
    (c.loop-n.joiners.end - c.args.start) c.loop-n.joiners.stuck c.loop-n.count c.read.new.self
    ready kinds c.loop-n.invariant.walking one_more step (sym c.kind.ensures ∙ c.in-None.is)
    (c.behind_joiners.ensures.stays stops.0) (let le = stops.1 in omega (arith, le)) stops.2)).opens

pub returns-in-None-behind_joiners-clause-joined : goal.returns-in-None-behind_joiners-clause-joined
returns-in-None-behind_joiners-clause-joined g c =
    let w : Ways = record {
      grammar = g.M.Machine.grammar c.args.machine.now;
      ends = g.M.Machine.ends c.args.machine.now;
      first = g.M.Machine.first c.args.machine.now;
      is_joiner = g.M.Machine.is_joiner c.args.machine.now;
      rank = g.M.Machine.rank c.args.machine.now;
      waits = g.M.Machine.waits c.args.machine.now;
      cycles = g.M.Machine.cycles c.args.machine.now;
      begun = g.M.Machine.begun c.args.machine.now;
      cycled = g.M.Machine.cycled c.args.machine.now;
    } in
    let t : Task =
    record {
      ways = w;
      gs = c.args.glyphs.now;
      len = c.args.joiners.now.end
          - c.args.start;
      stuck = c.args.joiners.now.stuck;
      watch = c.args.count.now;
    } in
    let ready : Ready t = record {
      nothing = c.start-state.ensures.passes;
      some = c.requires.some;
      read = c.requires.read;
      calm = subst (λ q. w.waits q ≡ false) c.start-state.ensures.first c.start-state.ensures.waits;
      knows = c.requires.joined;
    } in
    let leads : Leads w c.loop-n.state (get_or c.args.glyphs.now c.loop-n.n default_glyph).category c.next-state.result
    = record {
      step = c.next-state.ensures.ends;
      falls = c.next-state.ensures.falls;
      low = c.next-state.ensures.rank;
      one = c.next-state.ensures.one;
      begun = c.next-state.ensures.begun;
      two = c.next-state.ensures.two;
      same = c.next-state.ensures.same;
      waiting = c.next-state.ensures.waits;
    } in
    let one_more = noted c.loop-n.count c.read.new.self c.loop-n.n c.read.ensures in
    let step : GlyphStep t c.loop-n.n c.loop-n.state c.next-state.result c.next_read-n.result = record {
      in_range = c.loop-n-test.true;
      next_is = c.next_read-n.ensures.place;
      within = c.next_read-n.ensures.within;
      leads = leads;
      alive = c.is_dead.ensures.alive c.if-is_dead.false;
    } in
    let kinds : (u : List ℕ) → IsKind w.grammar u (w.ends w.first u) =
    (λ u. subst (λ q. IsKind w.grammar u (w.ends q u)) c.start-state.ensures.first
    (c.start-state.ensures.kinds u)) in
    let stops = c.in-None-behind_joiners.ensures.stops in
    (subst (λ (j : Joiners). Walked t c.loop-n.span (j.end - c.args.start) j.stuck c.read.new.self) (sym stops.3)
    (walking_stuck t c.loop-n.n c.loop-n.state c.next-state.result c.next_read-n.result c.loop-n.span
    (c.loop-n.joiners.end - c.args.start) c.loop-n.joiners.stuck c.loop-n.count c.read.new.self
    ready kinds c.loop-n.invariant.walking one_more step (sym c.kind.ensures ∙ c.in-None.is)
    (c.behind_joiners.ensures.stays stops.0) (let le = stops.1 in omega (arith, le)) stops.2)).known

pub returns-in-None-behind_joiners-clause-counted : goal.returns-in-None-behind_joiners-clause-counted
returns-in-None-behind_joiners-clause-counted g c =
    let w : Ways = record {
      grammar = g.M.Machine.grammar c.args.machine.now;
      ends = g.M.Machine.ends c.args.machine.now;
      first = g.M.Machine.first c.args.machine.now;
      is_joiner = g.M.Machine.is_joiner c.args.machine.now;
      rank = g.M.Machine.rank c.args.machine.now;
      waits = g.M.Machine.waits c.args.machine.now;
      cycles = g.M.Machine.cycles c.args.machine.now;
      begun = g.M.Machine.begun c.args.machine.now;
      cycled = g.M.Machine.cycled c.args.machine.now;
    } in
    let t : Task =
    record {
      ways = w;
      gs = c.args.glyphs.now;
      len = c.args.joiners.now.end
          - c.args.start;
      stuck = c.args.joiners.now.stuck;
      watch = c.args.count.now;
    } in
    let ready : Ready t = record {
      nothing = c.start-state.ensures.passes;
      some = c.requires.some;
      read = c.requires.read;
      calm = subst (λ q. w.waits q ≡ false) c.start-state.ensures.first c.start-state.ensures.waits;
      knows = c.requires.joined;
    } in
    let leads : Leads w c.loop-n.state (get_or c.args.glyphs.now c.loop-n.n default_glyph).category c.next-state.result
    = record {
      step = c.next-state.ensures.ends;
      falls = c.next-state.ensures.falls;
      low = c.next-state.ensures.rank;
      one = c.next-state.ensures.one;
      begun = c.next-state.ensures.begun;
      two = c.next-state.ensures.two;
      same = c.next-state.ensures.same;
      waiting = c.next-state.ensures.waits;
    } in
    let one_more = noted c.loop-n.count c.read.new.self c.loop-n.n c.read.ensures in
    let step : GlyphStep t c.loop-n.n c.loop-n.state c.next-state.result c.next_read-n.result = record {
      in_range = c.loop-n-test.true;
      next_is = c.next_read-n.ensures.place;
      within = c.next_read-n.ensures.within;
      leads = leads;
      alive = c.is_dead.ensures.alive c.if-is_dead.false;
    } in
    let kinds : (u : List ℕ) → IsKind w.grammar u (w.ends w.first u) =
    (λ u. subst (λ q. IsKind w.grammar u (w.ends q u)) c.start-state.ensures.first
    (c.start-state.ensures.kinds u)) in
    let stops = c.in-None-behind_joiners.ensures.stops in
    (subst (λ (j : Joiners). Walked t c.loop-n.span (j.end - c.args.start) j.stuck c.read.new.self) (sym stops.3)
    (walking_stuck t c.loop-n.n c.loop-n.state c.next-state.result c.next_read-n.result c.loop-n.span
    (c.loop-n.joiners.end - c.args.start) c.loop-n.joiners.stuck c.loop-n.count c.read.new.self
    ready kinds c.loop-n.invariant.walking one_more step (sym c.kind.ensures ∙ c.in-None.is)
    (c.behind_joiners.ensures.stays stops.0) (let le = stops.1 in omega (arith, le)) stops.2)).counted

pub returns-clause-opens : goal.returns-clause-opens
returns-clause-opens g c =
    let w : Ways = record {
      grammar = g.M.Machine.grammar c.args.machine.now;
      ends = g.M.Machine.ends c.args.machine.now;
      first = g.M.Machine.first c.args.machine.now;
      is_joiner = g.M.Machine.is_joiner c.args.machine.now;
      rank = g.M.Machine.rank c.args.machine.now;
      waits = g.M.Machine.waits c.args.machine.now;
      cycles = g.M.Machine.cycles c.args.machine.now;
      begun = g.M.Machine.begun c.args.machine.now;
      cycled = g.M.Machine.cycled c.args.machine.now;
    } in
    let t : Task =
    record {
      ways = w;
      gs = c.args.glyphs.now;
      len = c.args.joiners.now.end
          - c.args.start;
      stuck = c.args.joiners.now.stuck;
      watch = c.args.count.now;
    } in
    let ready : Ready t = record {
      nothing = c.start-state.ensures.passes;
      some = c.requires.some;
      read = c.requires.read;
      calm = subst (λ q. w.waits q ≡ false) c.start-state.ensures.first c.start-state.ensures.waits;
      knows = c.requires.joined;
    } in
    let kinds : (u : List ℕ) → IsKind w.grammar u (w.ends w.first u) =
    (λ u. subst (λ q. IsKind w.grammar u (w.ends q u)) c.start-state.ensures.first
    (c.start-state.ensures.kinds u)) in
    (walking_all t c.loop-n.n c.loop-n.state c.loop-n.span (c.loop-n.joiners.end - c.args.start) c.loop-n.joiners.stuck
    c.loop-n.count
    ready kinds c.loop-n.invariant.walking c.loop-n-test.false).opens

pub returns-clause-joined : goal.returns-clause-joined
returns-clause-joined g c =
    let w : Ways = record {
      grammar = g.M.Machine.grammar c.args.machine.now;
      ends = g.M.Machine.ends c.args.machine.now;
      first = g.M.Machine.first c.args.machine.now;
      is_joiner = g.M.Machine.is_joiner c.args.machine.now;
      rank = g.M.Machine.rank c.args.machine.now;
      waits = g.M.Machine.waits c.args.machine.now;
      cycles = g.M.Machine.cycles c.args.machine.now;
      begun = g.M.Machine.begun c.args.machine.now;
      cycled = g.M.Machine.cycled c.args.machine.now;
    } in
    let t : Task =
    record {
      ways = w;
      gs = c.args.glyphs.now;
      len = c.args.joiners.now.end
          - c.args.start;
      stuck = c.args.joiners.now.stuck;
      watch = c.args.count.now;
    } in
    let ready : Ready t = record {
      nothing = c.start-state.ensures.passes;
      some = c.requires.some;
      read = c.requires.read;
      calm = subst (λ q. w.waits q ≡ false) c.start-state.ensures.first c.start-state.ensures.waits;
      knows = c.requires.joined;
    } in
    let kinds : (u : List ℕ) → IsKind w.grammar u (w.ends w.first u) =
    (λ u. subst (λ q. IsKind w.grammar u (w.ends q u)) c.start-state.ensures.first
    (c.start-state.ensures.kinds u)) in
    (walking_all t c.loop-n.n c.loop-n.state c.loop-n.span (c.loop-n.joiners.end - c.args.start) c.loop-n.joiners.stuck
    c.loop-n.count
    ready kinds c.loop-n.invariant.walking c.loop-n-test.false).known

pub returns-clause-counted : goal.returns-clause-counted
returns-clause-counted g c =
    let w : Ways = record {
      grammar = g.M.Machine.grammar c.args.machine.now;
      ends = g.M.Machine.ends c.args.machine.now;
      first = g.M.Machine.first c.args.machine.now;
      is_joiner = g.M.Machine.is_joiner c.args.machine.now;
      rank = g.M.Machine.rank c.args.machine.now;
      waits = g.M.Machine.waits c.args.machine.now;
      cycles = g.M.Machine.cycles c.args.machine.now;
      begun = g.M.Machine.begun c.args.machine.now;
      cycled = g.M.Machine.cycled c.args.machine.now;
    } in
    let t : Task =
    record {
      ways = w;
      gs = c.args.glyphs.now;
      len = c.args.joiners.now.end
          - c.args.start;
      stuck = c.args.joiners.now.stuck;
      watch = c.args.count.now;
    } in
    let ready : Ready t = record {
      nothing = c.start-state.ensures.passes;
      some = c.requires.some;
      read = c.requires.read;
      calm = subst (λ q. w.waits q ≡ false) c.start-state.ensures.first c.start-state.ensures.waits;
      knows = c.requires.joined;
    } in
    let kinds : (u : List ℕ) → IsKind w.grammar u (w.ends w.first u) =
    (λ u. subst (λ q. IsKind w.grammar u (w.ends q u)) c.start-state.ensures.first
    (c.start-state.ensures.kinds u)) in
    (walking_all t c.loop-n.n c.loop-n.state c.loop-n.span (c.loop-n.joiners.end - c.args.start) c.loop-n.joiners.stuck
    c.loop-n.count
    ready kinds c.loop-n.invariant.walking c.loop-n-test.false).counted

pub returns-clause-within : goal.returns-clause-within
returns-clause-within g c =
    opens_within (g.M.Machine.grammar c.args.machine.now) c.args.glyphs.now c.loop-n.span (returns-clause-opens g c)
