-- A font of two single substitutions, by its bytes.
use Rattle.std.specs.Prelude.{ℕ, true, false, List, [], ◌∷◌, ◌++◌}
use Rattle.shapers_buffer.specs.Buffer.{Buffer}
use Rattle.shapers_buffer.specs.Glyphs.{Glyphs}
use Rattle.opentype_font.specs.Lookups.{substituted_by}
use Rattle.shapers_break_laws.specs.Pieces.{BreaksWhereCleared, CutWhereClear}
use Rattle.shapers_editing.specs.PipelineBreaks.{AreAsIn, IsPiece, Numbering}
use Rattle.shapers_plan.specs.declared.ot_map.lookups.StageLookup.{StageLookup}

-- GSUB with one lookup, of type 1: its subtable adds 2 to the numbers of glyphs 5 and 9
abbrev pub two_singles : List ℕ
two_singles = (0 ∷ 1 ∷ 0 ∷ 0 ∷ 0 ∷ 0 ∷ 0 ∷ 0 ∷ 0 ∷ 10 ∷ 0 ∷ 1 ∷ 0 ∷ 4 ∷ [])
    ++ ((0 ∷ 1 ∷ 0 ∷ 0 ∷ 0 ∷ 1 ∷ 0 ∷ 8 ∷ []) ++ ((0 ∷ 1 ∷ 0 ∷ 6 ∷ 0 ∷ 2 ∷ [])
    ++ (0 ∷ 1 ∷ 0 ∷ 2 ∷ 0 ∷ 5 ∷ 0 ∷ 9 ∷ [])))

-- a font's first lookup in a plan, for glyphs with bit 8 of their masks
abbrev pub first_lookup : StageLookup
first_lookup = record {
  index = 0;
  mask = 256;
  auto_zwnj = true;
  auto_zwj = true;
  random = false;
  per_syllable = false;
}

-- glyphs that the lookup made of a text, at each clear place those that it makes of its pieces
abbrev pub IsMadeOfPieces : Buffer → Glyphs → Type 0
IsMadeOfPieces old made = (numbered : Numbering) → BreaksWhereCleared Glyphs CutWhereClear
    (λ piece part. (one : Buffer) → IsPiece numbered old piece one →
    AreAsIn numbered part (substituted_by [] two_singles first_lookup one).glyphs) old.glyphs made
