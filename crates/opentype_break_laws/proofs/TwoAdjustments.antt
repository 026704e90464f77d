-- The font of single adjustments meets the laws of a font's lookups of positions.
use Rattle.std.proofs.Common.{◌≡◌, inl, [], length, refl}
use Rattle.shapers_buffer.specs.Buffer.{Buffer}
use Rattle.opentype_font.specs.Lookups.{positioned_by}
use Rattle.opentype_break_laws.specs.FontPositions.{AdjustsSingles, FontLookupsLeavePositions}
use Rattle.opentype_break_laws.specs.PlacedPieces.{placed_in}
use Rattle.opentype_break_laws.specs.TwoAdjustments.{IsPlacedOfPieces, two_adjustments}
use Rattle.opentype_break_laws.specs.TwoSingles.{first_lookup}

adjusts_two : AdjustsSingles two_adjustments first_lookup
adjusts_two = record { types = λ i less. refl; flagless = refl }

pub placed_of_pieces : FontLookupsLeavePositions → (old new : Buffer) → length old.positions ≡ length old.glyphs
    → new ≡ positioned_by [] two_adjustments first_lookup old → IsPlacedOfPieces old (placed_in new)
placed_of_pieces law old new paired is numbered =
    let leaves = law numbered old [] two_adjustments first_lookup old (record { paired = paired; direction = refl })
    (inl adjusts_two) in
    rw is leaves
