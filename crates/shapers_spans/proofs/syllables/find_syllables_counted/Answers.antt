use Rattle.std.proofs.Common.{◌≡◌, ◌+◌, ◌≤◌, ◌∙◌, ap, arith, drop, false, length, refl, subst, sym, ◌-◌}
use Rattle.std.proofs.lemmas.List.{drop-drop}
use Rattle.shapers_buffer.specs.Glyphs.{Glyphs}
use Rattle.shapers_spans.specs.Grammar.{BeginsWith}
use Rattle.shapers_spans.specs.Joined.{KnowsJoiners}
use Rattle.shapers_spans.specs.Watch.{Watch, IsWatched}
use Rattle.shapers_spans.proofs.FoundSpans.{found_start, knows_none, watched_none, sliced}
use Rattle.shapers_spans.proofs.WrittenBytes.{written_start, written_next, written_all}
use Rattle.shapers_spans.proofs.syllables.find_syllables_counted.Goals as goal

pub loop-start-init : goal.loop-start-init
loop-start-init g c =
    let grammar = g.M.Machine.grammar c.args.machine.now in
    let f = found_start (g.M.Machine.grammar c.args.machine.now) c.args.glyphs.now c.next_read-start.result _
    c.next_read-start.ensures.end
    (let h = c.other.ensures.fits in let e = c.other.ensures.kind in omega (arith, h, e))
    (let e = c.next_read-start.ensures.place in omega (arith, e)) refl in
    let w = written_start (g.M.Machine.grammar c.args.machine.now) c.args.glyphs.now c.write_span.new.glyphs
    c.next_read-start.result c.lead_count-spans.result c.other.result f c.other.ensures.kind
    (c.lead_count-spans.ensures.count (g.M.Machine.grammar c.args.machine.now).other) c.write_span.ensures in
    record {
      written = w;
      few = c.lead_count-spans.ensures.few;
      joined = knows_none grammar.passes (g.M.Machine.is_joiner c.args.machine.now)
          (g.M.Machine.ends c.args.machine.now) (drop c.next_read-start.result c.write_span.new.glyphs)
          (c.none-joiners.result.end - c.next_read-start.result) c.none-joiners.result.stuck
          (ap grammar.passes w.rest ∙ f.read) (let e = c.none-joiners.ensures in omega (arith, e));
      counted = watched_none grammar.passes (g.M.Machine.cycled c.args.machine.now)
          (drop c.next_read-start.result c.write_span.new.glyphs) (c.none-joiners.result.end - c.next_read-start.result)
          c.none-joiners.result.stuck c.pass.new.self.reads c.pass.new.self refl;
    }

pub loop-start-preserved : goal.loop-start-preserved
loop-start-preserved g c =
    let gs = c.loop-start.glyphs in
    let start = c.loop-start.start in
    let span = c.first_span-span.result in
    let grammar = g.M.Machine.grammar c.args.machine.now in
    let x = c.first_span-span.ensures in
    let i = c.loop-start.invariant in
    let w = written_next grammar c.args.glyphs.now gs c.write_span-in-loop-start.new.glyphs start c.loop-start.spans
    span i.written
    (sliced (λ xs. BeginsWith grammar xs span) gs start x.opens) x.some
    (sliced (λ (xs : Glyphs). span.len ≤ length xs) gs start x.within) x.kind
    (sliced (λ (xs : Glyphs). grammar.passes (drop span.len xs) ≡ false) gs start x.read)
    c.write_span-in-loop-start.ensures in
    let joins = g.M.Machine.is_joiner c.args.machine.now in
    let ends = g.M.Machine.ends c.args.machine.now in
    let cycled = g.M.Machine.cycled c.args.machine.now in
    let old = c.loop-start.joiners in
    let new = c.first_span-span.new.joiners in
    let before = c.pass.new.self.reads in
    let left : Watch = record c.first_span-span.new.count { ahead = c.first_span-span.new.count.ahead - span.len } in
    let less : new.end - start - span.len ≡ new.end - (start + span.len) = omega arith in
    let on : drop span.len (drop start gs) ≡ drop (start + span.len) c.write_span-in-loop-start.new.glyphs =
    ap (λ (xs : Glyphs). drop span.len xs) i.written.rest ∙ drop-drop span.len start c.args.glyphs.now
    ∙ sym w.rest in
    record {
      written = w;
      few = (let a = i.few in let b = x.some in omega (arith, a, b));
      joined = subst (λ n. KnowsJoiners grammar.passes joins ends
          (drop (start + span.len) c.write_span-in-loop-start.new.glyphs) n new.stuck) less
          (subst (λ xs. KnowsJoiners grammar.passes joins ends xs (new.end - start - span.len) new.stuck) on
          (sliced (λ (xs : Glyphs). KnowsJoiners grammar.passes joins ends (drop span.len xs)
          (new.end - start - span.len) new.stuck) gs start x.joined));
      counted = subst (λ (w : Watch). IsWatched grammar.passes cycled
          (drop (start + span.len) c.write_span-in-loop-start.new.glyphs) (new.end - (start + span.len)) new.stuck
          before w) (sym c.pass-in-loop-start.ensures)
          (subst (λ n. IsWatched grammar.passes cycled (drop (start + span.len) c.write_span-in-loop-start.new.glyphs) n
          new.stuck before left) less
          (subst (λ xs. IsWatched grammar.passes cycled xs (new.end - start - span.len) new.stuck before left) on
          (sliced (λ (xs : Glyphs). IsWatched grammar.passes cycled xs (old.end - start) old.stuck before
          c.loop-start.count
          → IsWatched grammar.passes cycled (drop span.len xs) (new.end - start - span.len) new.stuck before left)
          gs start (x.counted before) i.counted)));
    }

pub returns-clause-syllables : goal.returns-clause-syllables
returns-clause-syllables g c =
    written_all (g.M.Machine.grammar c.args.machine.now) c.args.glyphs.now c.loop-start.glyphs c.loop-start.start
    c.loop-start.spans c.loop-start.invariant.written c.loop-start-test.false

pub returns-clause-counted : goal.returns-clause-counted
returns-clause-counted g c =
    let few = c.loop-start.invariant.counted.few in
    let same : c.pass.new.self.reads ≡ c.args.count.now.reads = ap (λ (w : Watch). w.reads) c.pass.ensures in
    omega (arith, few, same)
