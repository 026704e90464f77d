use Rattle.std.proofs.Common.{◌≡◌, ◌+◌, ◌≤◌, ◌∙◌, ap, arith, drop, false, length, refl, rules, subst, ◌-◌, sym}
use Rattle.std.proofs.lemmas.List.{drop-drop}
use Rattle.shapers_buffer.specs.Glyphs.{Glyphs}
use Rattle.shapers_spans.specs.Grammar.{BeginsWith, lead_spans}
use Rattle.shapers_spans.specs.Joined.{KnowsJoiners}
use Rattle.shapers_spans.specs.Watch.{Watch, IsWatched}
use Rattle.shapers_spans.proofs.FoundSpans.{found_start, found_next, found_all, found_fewer, refused, knows_none, watched_none, sliced}
use Rattle.shapers_spans.proofs.spans.spans_into_counted.Goals as goal

pub loop-start-init : goal.loop-start-init
loop-start-init g c =
    let grammar = g.M.Machine.grammar c.args.machine.now in
    let f = found_start (g.M.Machine.grammar c.args.machine.now) c.args.glyphs.now c.next_read-start.result
    c.push_lead.new.spans.items c.next_read-start.ensures.end
    (let h = c.other.ensures.fits in let e = c.other.ensures.kind in omega (arith, h, e))
    (let e = c.next_read-start.ensures.place in omega (arith, e))
    (let e : c.push_lead.new.spans.items ≡ _ = c.in_ok-push_lead.ensures.ok in e
    ∙ ap (λ k. lead_spans c.next_read-start.result k) c.other.ensures.kind) in
    record {
      capacity = omega (arith, c.push_lead.ensures.capacity, c.clear.ensures.capacity);
      found = f;
      joined = knows_none grammar.passes (g.M.Machine.is_joiner c.args.machine.now)
          (g.M.Machine.ends c.args.machine.now) (drop c.next_read-start.result c.args.glyphs.now)
          (c.none-joiners.result.end - c.next_read-start.result) c.none-joiners.result.stuck f.read
          (let e = c.none-joiners.ensures in omega (arith, e));
      counted = watched_none grammar.passes (g.M.Machine.cycled c.args.machine.now)
          (drop c.next_read-start.result c.args.glyphs.now) (c.none-joiners.result.end - c.next_read-start.result)
          c.none-joiners.result.stuck c.pass.new.self.reads c.pass.new.self refl;
    }

pub returns-in_err-map_err-clause-room : goal.returns-in_err-map_err-clause-room
returns-in_err-map_err-clause-room g c all are fits =
    let l = c.loop-start in
    let full = refused c.push.result c.in_err-map_err.ensures.variant c.push.ensures.full in
    let fewer = found_fewer (g.M.Machine.grammar c.args.machine.now) c.args.glyphs.now l.start l.spans.items all
    l.invariant.found (omega (arith, c.loop-start-test.true)) are in
    absurd (omega (arith, full, fewer, fits, l.invariant.capacity))

pub loop-start-preserved : goal.loop-start-preserved
loop-start-preserved g c =
    let gs = c.args.glyphs.now in
    let start = c.loop-start.start in
    let span = c.first_span-span.result in
    let grammar = g.M.Machine.grammar c.args.machine.now in
    let x = c.first_span-span.ensures in
    let i = c.loop-start.invariant in
    let joins = g.M.Machine.is_joiner c.args.machine.now in
    let ends = g.M.Machine.ends c.args.machine.now in
    let cycled = g.M.Machine.cycled c.args.machine.now in
    let old = c.loop-start.joiners in
    let new = c.first_span-span.new.joiners in
    let before = c.pass.new.self.reads in
    let left : Watch = record c.first_span-span.new.count { ahead = c.first_span-span.new.count.ahead - span.len } in
    let less : new.end - start - span.len ≡ new.end - (start + span.len) = omega arith in
    let on : drop span.len (drop start gs) ≡ drop (start + span.len) gs = drop-drop span.len start gs in
    record {
      capacity = omega (arith, i.capacity, c.push.ensures.capacity);
      found = found_next grammar gs start span c.loop-start.spans.items c.push.new.self.items i.found
          (sliced (λ xs. BeginsWith grammar xs span) gs start x.opens) x.some
          (sliced (λ (xs : Glyphs). span.len ≤ length xs) gs start x.within) x.kind
          (sliced (λ (xs : Glyphs). grammar.passes (drop span.len xs) ≡ false) gs start x.read)
          (search rules);
      joined = subst (λ n. KnowsJoiners grammar.passes joins ends (drop (start + span.len) gs) n new.stuck) less
          (subst (λ xs. KnowsJoiners grammar.passes joins ends xs (new.end - start - span.len) new.stuck) on
          (sliced (λ (xs : Glyphs). KnowsJoiners grammar.passes joins ends (drop span.len xs)
          (new.end - start - span.len) new.stuck) gs start x.joined));
      counted = subst (λ (w : Watch). IsWatched grammar.passes cycled (drop (start + span.len) gs)
          (new.end - (start + span.len)) new.stuck before w) (sym c.pass-in-loop-start.ensures)
          (subst (λ n. IsWatched grammar.passes cycled (drop (start + span.len) gs) n new.stuck before left) less
          (subst (λ xs. IsWatched grammar.passes cycled xs (new.end - start - span.len) new.stuck before left) on
          (sliced (λ (xs : Glyphs). IsWatched grammar.passes cycled xs (old.end - start) old.stuck before
          c.loop-start.count
          → IsWatched grammar.passes cycled (drop span.len xs) (new.end - start - span.len) new.stuck before left)
          gs start (x.counted before) i.counted)));
    }

pub returns-clause-spans : goal.returns-clause-spans
returns-clause-spans g c =
    found_all (g.M.Machine.grammar c.args.machine.now) c.args.glyphs.now c.loop-start.start c.loop-start.spans.items
    c.loop-start.invariant.found c.loop-start-test.false

pub returns-clause-counted : goal.returns-clause-counted
returns-clause-counted g c =
    let few = c.loop-start.invariant.counted.few in
    let same : c.pass.new.self.reads ≡ c.args.count.now.reads = ap (λ (w : Watch). w.reads) c.pass.ensures in
    omega (arith, few, same)
