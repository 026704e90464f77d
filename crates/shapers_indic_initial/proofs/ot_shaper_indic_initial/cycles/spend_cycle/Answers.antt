-- One more place of the cycle, until the walk is back.
use Rattle.std.proofs.Common.{◌+◌, ◌-◌, length, refl, ap, ◌∙◌, subst, arith}
use Rattle.shapers_indic_initial.specs.CycleWalk.{places_from}
use Rattle.shapers_indic_initial.proofs.CycleMerges.{stretch_bounds}
use Rattle.shapers_indic_initial.proofs.CycleSteps.{Passing, length-places_from, others_next, passed_back, passed_whole, passing_as, passing_next, passing_start}
use Rattle.shapers_indic_initial.proofs.ot_shaper_indic_initial.cycles.spend_cycle.Goals as goal

pub loop-init : goal.loop-init
loop-init c =
    let e = c.args.end in
    let places = c.args.buffer.now.places in
    let n = length-places_from c.args.start e places in
    let start = passing_start (places_from c.args.start e places) c.args.first (omega arith) c.requires.once in
    search arith

pub loop-preserved : goal.loop-preserved
loop-preserved c =
    let l = c.loop in
    let s = c.args.start in
    let e = c.args.end in
    let places = c.args.buffer.now.places in
    let f = places_from s e places in
    let before = subst (λ k. Passing f c.args.first (places_from s e l.buffer.places) l.place k l.least l.greatest)
    (omega arith) l.invariant.passing in
    let next = passing_next f c.args.first (places_from s e l.buffer.places) l.place (e - (l.counter + 1)) l.least
    l.greatest c.if-place-first.false before in
    let is = c.old_place-next.ensures e l.invariant.inside in
    record {
      from = omega arith;
      others = others_next c.args.buffer.now l.buffer c.spend_place-in-loop.new.buffer l.invariant.others
          c.spend_place-in-loop.ensures.others;
      long = ap (λ b. length b.glyphs) c.spend_place-in-loop.ensures.others ∙ l.invariant.long;
      inside = omega (arith, length-places_from s e places);
      passing = passing_as f c.args.first _ _ _ _ _ _ _ _ _ _ (c.spend_place-in-loop.ensures.spent e l.invariant.inside)
          is refl c.min-least.ensures c.max-greatest.ensures next;
    }

pub returns-then-place-first : goal.returns-then-place-first
returns-then-place-first c =
    let l = c.loop in
    let places = c.args.buffer.now.places in
    let f = places_from c.args.start c.args.end places in
    let w = passed_back f c.args.first (places_from c.args.start c.args.end l.buffer.places) l.place (c.args.end -
    l.counter) l.least l.greatest c.if-place-first.true l.invariant.passing in
    let d = stretch_bounds f 0 c.args.first (omega arith) c.requires.once in
    search (arith, length-places_from c.args.start c.args.end places)

pub returns-after-loop : goal.returns-after-loop
returns-after-loop c =
    let l = c.loop in
    let places = c.args.buffer.now.places in
    let f = places_from c.args.start c.args.end places in
    let w = passed_whole f c.args.first (places_from c.args.start c.args.end l.buffer.places) l.place (c.args.end -
    l.counter) l.least l.greatest (omega arith) l.invariant.passing in
    let d = stretch_bounds f 0 c.args.first (omega arith) c.requires.once in
    search (arith, length-places_from c.args.start c.args.end places)
