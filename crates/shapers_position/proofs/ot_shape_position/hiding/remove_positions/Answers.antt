-- The next position, of a glyph that stays or goes.
use Rattle.std.proofs.Common.{◌≡◌, ◌+◌, ◌++◌, ◌∙◌, drop, false, get_or, length, refl, sym, take, true, ap, arith}
use Rattle.shapers_buffer.specs.Glyph.{default_glyph}
use Rattle.shapers_position.specs.Ignorables.{is_default_ignorable, positions_kept}
use Rattle.shapers_position.proofs.PositionSteps.{moved_goes, moved_stays}
use Rattle.shapers_position.proofs.RemovalSteps.{count_next}
use Rattle.shapers_position.proofs.ot_shape_position.hiding.remove_positions.Goals as goal
use Rattle.shapers_position.proofs.ot_shape_position.hiding.remove_positions.Goals.{then-not-is_default_ignorable, else-not-is_default_ignorable}

pub loop-i-preserved : goal.loop-i-preserved
loop-i-preserved c =
    let l = c.loop-i in
    let gs = c.args.glyphs.now in
    let next = c.if-not-is_default_ignorable in
    let rest = drop (l.i + 1) gs in
    let same : length l.positions ≡ length gs = omega (arith, c.requires, l.auto.positions) in
    elim next.branch [
      | then-not-is_default_ignorable w ↦
          let is : is_default_ignorable (get_or gs l.i default_glyph) ≡ false = sym c.is_default_ignorable.ensures
          ∙ w.if-not-is_default_ignorable.true in
          record {
            few = omega (arith, w.kept-is, l.invariant.few);
            count = omega (arith, w.kept-is, count_next gs l.i false c.loop-i-test.true is, l.invariant.count);
            moved =
                ap (λ k. take k next.positions ++ positions_kept rest (drop (l.i + 1) next.positions)) w.kept-is
                ∙ ap (λ ps. take (l.kept + 1) ps ++ positions_kept rest (drop (l.i + 1) ps)) w.positions-is
                ∙ moved_stays gs l.positions l.kept l.i _ l.invariant.few c.loop-i-test.true same refl is
                ∙ l.invariant.moved;
          }
      | else-not-is_default_ignorable w ↦
          let is : is_default_ignorable (get_or gs l.i default_glyph) ≡ true = sym c.is_default_ignorable.ensures
          ∙ w.if-not-is_default_ignorable.false in
          record {
            few = omega (arith, w.kept-is, l.invariant.few);
            count = omega (arith, w.kept-is, count_next gs l.i true c.loop-i-test.true is, l.invariant.count);
            moved =
                ap (λ k. take k next.positions ++ positions_kept rest (drop (l.i + 1) next.positions)) w.kept-is
                ∙ ap (λ ps. take l.kept ps ++ positions_kept rest (drop (l.i + 1) ps)) w.positions-is
                ∙ moved_goes gs l.positions l.kept l.i c.loop-i-test.true same is
                ∙ l.invariant.moved;
          }
    ]
