-- The font of pairs meets the laws of a font's lookups of positions, in short texts.
use Rattle.std.proofs.Common.{◌≡◌, inr, [], length, refl}
use Rattle.shapers_buffer.specs.Buffer.{Buffer}
use Rattle.opentype_font.specs.Lookups.{positioned_by}
use Rattle.opentype_break_laws.specs.FontPositions.{FontLookupsLeavePositions}
use Rattle.opentype_break_laws.specs.Pairs.{IsShortText, MovesPairs, ShortTextsTakePairs}
use Rattle.opentype_break_laws.specs.PlacedPieces.{placed_in}
use Rattle.opentype_break_laws.specs.TwoPairs.{IsKernedOfPieces, two_pairs}
use Rattle.opentype_break_laws.specs.TwoSingles.{first_lookup}

moves_two : MovesPairs two_pairs first_lookup
moves_two = record { types = λ i less. refl; flagless = refl }

pub kerned_of_pieces : FontLookupsLeavePositions → ShortTextsTakePairs → (old new : Buffer)
    → length old.positions ≡ length old.glyphs → IsShortText old
    → new ≡ positioned_by [] two_pairs first_lookup old → IsKernedOfPieces old (placed_in new)
kerned_of_pieces law taken old new paired short is numbered =
    let leaves = law numbered old [] two_pairs first_lookup old (record { paired = paired; direction = refl })
    (inr (inr (moves_two, taken [] two_pairs first_lookup old short))) in
    rw is leaves
