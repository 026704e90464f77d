-- A font of pairs in both formats, by its bytes.
use Rattle.std.specs.Prelude.{ℕ, List, [], ◌∷◌, ◌++◌}
use Rattle.shapers_buffer.specs.Buffer.{Buffer}
use Rattle.shapers_editing.specs.PipelineBreaks.{Numbering}
use Rattle.opentype_gpos.specs.Kerned.{PlacedText}
use Rattle.opentype_font.specs.Lookups.{positioned_by}
use Rattle.opentype_break_laws.specs.PlacedPieces.{BreaksWherePlaced, CutPlaced, MakesPlaced, placed_in}
use Rattle.opentype_break_laws.specs.TwoSingles.{first_lookup}

-- GPOS with one lookup, of type 2, which ignores marks, with two subtables: by the first one, of
-- pairs, a 1 before a 3 is 10 units narrower; by the second one, of classes, a 3 behind a 2 is 20
-- units narrower, and begins no pair
abbrev pub two_pairs : List ℕ
two_pairs = (0 ∷ 1 ∷ 0 ∷ 0 ∷ 0 ∷ 0 ∷ 0 ∷ 0 ∷ 0 ∷ 10 ∷ 0 ∷ 1 ∷ 0 ∷ 4 ∷ [])
    ++ ((0 ∷ 2 ∷ 0 ∷ 8 ∷ 0 ∷ 2 ∷ 0 ∷ 10 ∷ 0 ∷ 34 ∷ [])
    ++ ((0 ∷ 1 ∷ 0 ∷ 18 ∷ 0 ∷ 4 ∷ 0 ∷ 0 ∷ 0 ∷ 1 ∷ 0 ∷ 12 ∷ [])
    ++ ((0 ∷ 1 ∷ 0 ∷ 3 ∷ 255 ∷ 246 ∷ []) ++ ((0 ∷ 1 ∷ 0 ∷ 1 ∷ 0 ∷ 1 ∷ [])
    ++ ((0 ∷ 2 ∷ 0 ∷ 20 ∷ 0 ∷ 0 ∷ 0 ∷ 4 ∷ 0 ∷ 26 ∷ 0 ∷ 32 ∷ 0 ∷ 1 ∷ 0 ∷ 2 ∷ [])
    ++ ((0 ∷ 0 ∷ 255 ∷ 236 ∷ []) ++ ((0 ∷ 1 ∷ 0 ∷ 1 ∷ 0 ∷ 2 ∷ [])
    ++ ((0 ∷ 1 ∷ 0 ∷ 0 ∷ 0 ∷ 0 ∷ []) ++ (0 ∷ 1 ∷ 0 ∷ 3 ∷ 0 ∷ 1 ∷ 0 ∷ 1 ∷ [])))))))))

-- positions that the lookup made of a text, at each clear place those that it makes of its pieces
abbrev pub IsKernedOfPieces : Buffer → PlacedText → Type 0
IsKernedOfPieces old made = (numbered : Numbering) → BreaksWherePlaced PlacedText CutPlaced
    (MakesPlaced numbered old (positioned_by [] two_pairs first_lookup)) (placed_in old) made
