use Rattle.std.proofs.Common.{◌≡◌, ℕ, ℤ, ◌*◌, ◌^◌, ◌*ℤ◌, ◌≤ℤ◌, pos, arith, subst, sym, ◌∙◌, FitsSigned, to_z, of_z}
use Rattle.std.proofs.lemmas.Int.{ints, to_z-of_z}
use mir.Syntax.{w32, w64}
use Rattle.shapers_stretch.specs.Measure.{times_added, copies_added, left, overlap, tiles_reach}
use Rattle.shapers_stretch.specs.declared.ot_shaper_arabic_stretch.measuring.TileSequence.{TileSequence}
use Rattle.shapers_stretch.proofs.Numbers.{shared_within}
use Rattle.shapers_stretch.proofs.ot_shaper_arabic_stretch.measuring.width_of_laid.Goals as goal

-- what the copies share together, as the code reads it, and its bounds
product : (z : TileSequence) (times : ℕ) (copies shared : ℤ) → FitsSigned w64 copies → FitsSigned w64 shared
    → copies ≡ pos (times * z.repeaters) → times ≡ times_added z → shared ≡ overlap z
    → to_z w64 (of_z w64 copies) *ℤ to_z w64 (of_z w64 shared) ≡ pos (copies_added z) *ℤ overlap z
product = search (arith, to_z-of_z)

within : (z : TileSequence) (times : ℕ) → FitsSigned w32 (left z) → times ≡ times_added z → FitsSigned w32 (tiles_reach z times)
    → (pos 0 ≤ℤ (pos (copies_added z) *ℤ overlap z)) × ((pos (copies_added z) *ℤ overlap z) ≤ℤ pos (2 ^ 34))
within z times rest f fits = shared_within z rest (search arith)

pub shared_by-requires-clause-low : goal.shared_by-requires-clause-low
shared_by-requires-clause-low c =
    subst (λ x. pos 0 ≤ℤ x)
    (sym (product c.args.sequence c.args.times c.copies.result c.args.shared (record { sfits = c.copies.type_inv })
    c.ranges.shared c.copies.ensures c.requires.added c.requires.overlap))
    (within c.args.sequence c.args.times c.requires.fits.left c.requires.added c.requires.tiles_reach).0

pub shared_by-requires-clause-high : goal.shared_by-requires-clause-high
shared_by-requires-clause-high c =
    subst (λ x. x ≤ℤ pos (2 ^ 34))
    (sym (product c.args.sequence c.args.times c.copies.result c.args.shared (record { sfits = c.copies.type_inv })
    c.ranges.shared c.copies.ensures c.requires.added c.requires.overlap))
    (within c.args.sequence c.args.times c.requires.fits.left c.requires.added c.requires.tiles_reach).1

pub overflow_sub-result : goal.overflow_sub-result
overflow_sub-result c = omega (
  arith,
  ints,
  c.shared_by.ensures
      ∙ (product c.args.sequence c.args.times c.copies.result c.args.shared (record { sfits = c.copies.type_inv })
      c.ranges.shared c.copies.ensures c.requires.added c.requires.overlap),
  (within c.args.sequence c.args.times c.requires.fits.left c.requires.added c.requires.tiles_reach).0,
  (within c.args.sequence c.args.times c.requires.fits.left c.requires.added c.requires.tiles_reach).1,
)

pub returns-clause-value : goal.returns-clause-value
returns-clause-value c =
    let reached : c.tiles_reach.result ≡ tiles_reach c.args.sequence (times_added c.args.sequence) = search arith in
    omega (
      arith,
      ints,
      c.shared_by.ensures
          ∙ (product c.args.sequence c.args.times c.copies.result c.args.shared (record { sfits = c.copies.type_inv })
          c.ranges.shared c.copies.ensures c.requires.added c.requires.overlap),
      (within c.args.sequence c.args.times c.requires.fits.left c.requires.added c.requires.tiles_reach).0,
      (within c.args.sequence c.args.times c.requires.fits.left c.requires.added c.requires.tiles_reach).1,
    )

pub returns-clause-low : goal.returns-clause-low
returns-clause-low c = omega (
  arith,
  ints,
  c.shared_by.ensures
      ∙ (product c.args.sequence c.args.times c.copies.result c.args.shared (record { sfits = c.copies.type_inv })
      c.ranges.shared c.copies.ensures c.requires.added c.requires.overlap),
  (within c.args.sequence c.args.times c.requires.fits.left c.requires.added c.requires.tiles_reach).0,
  (within c.args.sequence c.args.times c.requires.fits.left c.requires.added c.requires.tiles_reach).1,
)

pub returns-clause-high : goal.returns-clause-high
returns-clause-high c = omega (
  arith,
  ints,
  c.shared_by.ensures
      ∙ (product c.args.sequence c.args.times c.copies.result c.args.shared (record { sfits = c.copies.type_inv })
      c.ranges.shared c.copies.ensures c.requires.added c.requires.overlap),
  (within c.args.sequence c.args.times c.requires.fits.left c.requires.added c.requires.tiles_reach).0,
  (within c.args.sequence c.args.times c.requires.fits.left c.requires.added c.requires.tiles_reach).1,
)
