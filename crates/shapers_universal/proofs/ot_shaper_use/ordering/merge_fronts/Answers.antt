-- One glyph more: it goes to the front, ends its piece, or stays.
use Rattle.std.proofs.Common.{ap, arith, sym, ◌∙◌}
use Rattle.shapers_universal.specs.Universal.{goes_front, is_universal_halant}
use Rattle.shapers_universal.specs.Proved.UniversalFronts.{merging_front, merging_halant, merging_rest}
use Rattle.shapers_universal.specs.Proved.UniversalPlaces.{at}
use Rattle.shapers_universal.proofs.ot_shaper_use.ordering.merge_fronts.Goals as goal
use Rattle.shapers_universal.proofs.ot_shaper_use.ordering.merge_fronts.Goals.{then-goes_front, else-goes_front+then-is_halant, else-goes_front+else-is_halant}

pub loop-i-init : goal.loop-i-init
loop-i-init = search arith

pub loop-i-preserved : goal.loop-i-preserved
loop-i-preserved c =
    let l = c.loop-i in
    let s = c.args.start in
    let behind = c.args.behind in
    let e = c.args.end in
    let b0 = c.args.buffer.now in
    let b1 = c.if-goes_front.buffer in
    elim c.if-goes_front.branch [
      | then-goes_front w ↦
          rw (w.front-is, w.pending-is, w.buffer-is)
          (merging_front s behind e l.front l.i l.pending w.merge_range-pending.result b0 l.buffer w.merge_range-pending.new.self
          c.loop-i-test.true c.requires.in_range l.invariant
          (ap (λ xs. goes_front (at xs l.i)) (sym c.glyphs.ensures) ∙ sym c.goes_front.ensures
          ∙ w.if-goes_front.true) w.merge_range-pending.ensures.others w.merge_range-pending.ensures.merged
          w.merge_range-pending.ensures.fits w.merge_range-pending.ensures.same_length)
      | else-goes_front+then-is_halant w ↦
          rw (w.front-is, w.pending-is) (merging_halant s behind e l.front l.i l.pending b0 l.buffer b1 c.loop-i-test.true
          c.requires.in_range l.invariant (ap (λ xs. goes_front (at xs l.i)) (sym c.glyphs.ensures)
          ∙ sym c.goes_front.ensures ∙ w.if-goes_front.false)
          (ap (λ xs. is_universal_halant (at xs l.i)) (sym w.glyphs-else-goes_front.ensures)
          ∙ sym w.is_halant.ensures ∙ w.if-is_halant.true) w.buffer-is)
      | else-goes_front+else-is_halant w ↦
          rw (w.front-is, w.pending-is) (merging_rest s behind e l.front l.i l.pending b0 l.buffer b1 c.loop-i-test.true
          c.requires.in_range l.invariant (ap (λ xs. goes_front (at xs l.i)) (sym c.glyphs.ensures)
          ∙ sym c.goes_front.ensures ∙ w.if-goes_front.false)
          (ap (λ xs. is_universal_halant (at xs l.i)) (sym w.glyphs-else-goes_front.ensures)
          ∙ sym w.is_halant.ensures ∙ w.if-is_halant.false) w.buffer-is)
    ]

pub returns : goal.returns
returns = search arith
