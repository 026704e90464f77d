use Rattle.std.proofs.Common.{◌<◌, ◌+ℤ◌, ◌≤ℤ◌, ◌*◌, ◌-◌, neg_ℤ, pos, length, map, sym, subst, ap, ◌∙◌, arith, rules, length-append, FitsSigned, to_z, of_z}
use Rattle.std.proofs.lemmas.Int.{to_z-of_z}
use Rattle.std.specs.Slice.Iter.{chunks_rest}
use mir.Syntax.{w64, w128}
use Rattle.shapers_stretch.specs.Measure.{total}
use Rattle.shapers_stretch.proofs.Sums.{piece_bounds, piece_summed}
use Rattle.shapers_stretch.proofs.ot_shaper_arabic_stretch.measuring.total_advance.Goals as goal

pub loop-piece-preserved : goal.loop-piece-preserved
loop-piece-preserved c =
    let steps = c.in-Some.ensures.steps in
    let inv = c.loop-piece.invariant in
    let all = length c.args.word.now in
    let old = chunks_rest c.loop-piece.piece-iterator in
    let rest = chunks_rest c.next.new.self in
    let sum = to_z w128 c.loop-piece.sum-bits in
    let more = c.from-sum.result in
    let fits_short : FitsSigned w64 c.short_advance.result = record { sfits = c.short_advance.type_inv } in
    let short = c.from-sum.ensures ∙ to_z-of_z w64 c.short_advance.result fits_short in
    let less : length rest < length old =
    omega (arith, ap length steps.1.0 ∙ length-append c.in-Some.piece.now rest) in
    let bounds =
    piece_bounds all (length old) (length rest) sum more (omega arith) less inv.3
    (subst (FitsSigned w64) (sym short) fits_short) inv.5 inv.6 in
    let same =
    ap (λ x. to_z w128 (of_z w128 (sum +ℤ x))) (to_z-of_z w128 more (record { sfits = c.from-sum.type_inv }))
    ∙ to_z-of_z w128 (sum +ℤ more) bounds.fits in
    let summed = piece_summed (λ p. p.x_advance) _ old c.in-Some.piece.now rest sum more steps.1.0 inv.4 (short
    ∙ c.short_advance.ensures) in (
      search rules,
      tt,
      steps.0 ∙ inv.2,
      omega arith,
      ap (λ x. x +ℤ total (map (λ p. p.x_advance) rest)) same ∙ summed,
      subst (λ x. neg_ℤ (pos (9223372036854775808 * (all - length rest))) ≤ℤ x) (sym same) bounds.low,
      subst (λ x. x ≤ℤ pos (9223372036854775808 * (all - length rest))) (sym same) bounds.high,
    )
