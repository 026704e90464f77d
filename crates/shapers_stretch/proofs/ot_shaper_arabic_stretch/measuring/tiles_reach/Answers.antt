-- The product fits, by the bounds of its factors.
use Rattle.std.proofs.Common.{◌≡◌, ℕ, ◌*◌, ◌^◌, ◌≤◌, ◌≤ℤ◌, negsuc, ◌+ℤ◌, ◌*ℤ◌, pos, suc, sym, subst, arith, to_z, of_z, FitsSigned}
use Rattle.std.proofs.lemmas.Int.{to_z-of_z}
use mir.Syntax.{w32, w64}
use Rattle.shapers_stretch.specs.declared.ot_shaper_arabic_stretch.measuring.TileSequence.{TileSequence}
use Rattle.shapers_stretch.proofs.Counts.{widths_within}
use Rattle.shapers_stretch.specs.Measure.{tiles_reach}
use Rattle.shapers_stretch.proofs.Numbers.{reach_fits}
use Rattle.shapers_stretch.proofs.ot_shaper_arabic_stretch.measuring.tiles_reach.Goals as goal

product : (c : goal.After-struct_told-1)
    → to_z w64 (of_z w64 (to_z w64 c.args.added +ℤ pos 1)) *ℤ to_z w64 (of_z w64 c.args.sequence.repeating)
    ≡ tiles_reach c.args.sequence c.args.added
product = search arith

pub overflow_mul-result : goal.overflow_mul-result
overflow_mul-result = search (arith, product, reach_fits)

pub returns-clause-value : goal.returns-clause-value
returns-clause-value = search (arith, product, to_z-of_z, reach_fits)

within : (z : TileSequence) (n : ℕ) → FitsSigned w32 z.repeating → n ≤ 2 ^ 31 → (negsuc (3 * 2 ^ 61) ≤ℤ tiles_reach z n)
    × (tiles_reach z n ≤ℤ pos (3 * 2 ^ 61))
within z n fits = let near = widths_within (suc n) z.repeating fits in search arith

pub returns-clause-low : goal.returns-clause-low
returns-clause-low = search (arith, returns-clause-value, within)

pub returns-clause-high : goal.returns-clause-high
returns-clause-high c =
    subst (λ x. x ≤ℤ pos (3 * 2 ^ 61)) (sym (returns-clause-value c))
    (within c.args.sequence c.args.added c.requires.fits.repeating c.requires.bound).1
