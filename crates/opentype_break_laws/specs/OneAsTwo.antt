-- A font of one sequence, by its bytes.
use Rattle.std.specs.Prelude.{ℕ, ◌*◌, ◌≤◌, min, List, [], ◌∷◌, ◌++◌, length}
use Rattle.shapers_buffer.specs.Buffer.{Buffer}
use Rattle.shapers_buffer.specs.Glyphs.{Glyphs}
use Rattle.opentype_font.specs.Lookups.{substituted_by}
use Rattle.shapers_break_laws.specs.Pieces.{BreaksWhereCleared, CutWhereClear}
use Rattle.shapers_editing.specs.PipelineBreaks.{AreAsIn, IsPiece, Numbering}
use Rattle.opentype_break_laws.specs.Sequences.{ComparesNumbers}
use Rattle.opentype_break_laws.specs.TwoSingles.{first_lookup}

-- GSUB with one lookup, of type 2: glyphs 7 and 8 for a 5
abbrev pub one_as_two : List ℕ
one_as_two = (0 ∷ 1 ∷ 0 ∷ 0 ∷ 0 ∷ 0 ∷ 0 ∷ 0 ∷ 0 ∷ 10 ∷ 0 ∷ 1 ∷ 0 ∷ 4 ∷ [])
    ++ ((0 ∷ 2 ∷ 0 ∷ 0 ∷ 0 ∷ 1 ∷ 0 ∷ 8 ∷ []) ++ ((0 ∷ 1 ∷ 0 ∷ 8 ∷ 0 ∷ 1 ∷ 0 ∷ 14 ∷ [])
    ++ ((0 ∷ 1 ∷ 0 ∷ 1 ∷ 0 ∷ 5 ∷ []) ++ (0 ∷ 2 ∷ 0 ∷ 7 ∷ 0 ∷ 8 ∷ []))))

-- glyphs that the lookup made of a text, where twice as many have room: at each clear place those
-- that it makes of the text's pieces
abbrev pub IsMadeInPieces : Buffer → Glyphs → Type 0
IsMadeInPieces old made = 2 * length old.glyphs ≤ min old.max_len 65536 →
    (numbered : Numbering) → ComparesNumbers numbered → BreaksWhereCleared Glyphs CutWhereClear
    (λ piece part. (one : Buffer) → IsPiece numbered old piece one →
    AreAsIn numbered part (substituted_by [] one_as_two first_lookup one).glyphs) old.glyphs
    made
