-- A font of single adjustments in both formats, by its bytes.
use Rattle.std.specs.Prelude.{ℕ, List, [], ◌∷◌, ◌++◌}
use Rattle.shapers_buffer.specs.Buffer.{Buffer}
use Rattle.opentype_font.specs.Lookups.{positioned_by}
use Rattle.shapers_editing.specs.PipelineBreaks.{Numbering}
use Rattle.opentype_gpos.specs.Kerned.{PlacedText}
use Rattle.opentype_break_laws.specs.PlacedPieces.{BreaksWherePlaced, CutPlaced, MakesPlaced, placed_in}
use Rattle.opentype_break_laws.specs.TwoSingles.{first_lookup}

-- GPOS with one lookup, of type 1, with two subtables: by the first one glyph 5 is 10 units
-- narrower; by the second one glyph 6 stands 3 units to the right, and 9 stands 4 units up
abbrev pub two_adjustments : List ℕ
two_adjustments = (0 ∷ 1 ∷ 0 ∷ 0 ∷ 0 ∷ 0 ∷ 0 ∷ 0 ∷ 0 ∷ 10 ∷ 0 ∷ 1 ∷ 0 ∷ 4 ∷ [])
    ++ ((0 ∷ 1 ∷ 0 ∷ 0 ∷ 0 ∷ 2 ∷ 0 ∷ 10 ∷ 0 ∷ 24 ∷ [])
    ++ ((0 ∷ 1 ∷ 0 ∷ 8 ∷ 0 ∷ 4 ∷ 255 ∷ 246 ∷ []) ++ ((0 ∷ 1 ∷ 0 ∷ 1 ∷ 0 ∷ 5 ∷ [])
    ++ ((0 ∷ 2 ∷ 0 ∷ 16 ∷ 0 ∷ 3 ∷ 0 ∷ 2 ∷ 0 ∷ 3 ∷ 0 ∷ 0 ∷ 0 ∷ 0 ∷ 0 ∷ 4 ∷ [])
    ++ (0 ∷ 1 ∷ 0 ∷ 2 ∷ 0 ∷ 6 ∷ 0 ∷ 9 ∷ [])))))

-- positions that the lookup made of a text, at each clear place those that it makes of its pieces
abbrev pub IsPlacedOfPieces : Buffer → PlacedText → Type 0
IsPlacedOfPieces old made = (numbered : Numbering) → BreaksWherePlaced PlacedText CutPlaced
    (MakesPlaced numbered old (positioned_by [] two_adjustments first_lookup)) (placed_in old) made
