-- A font of one context, by its bytes, and what it makes of a text whose lookups begin.
use Rattle.std.specs.Prelude.{ℕ, ◌+◌, ◌%◌, ◌≤◌, ◌≡◌, true, List, [], ◌∷◌, ◌++◌, length, map}
use Rattle.shapers_buffer.specs.Buffer.{Buffer}
use Rattle.shapers_buffer.specs.Glyphs.{Glyph, Glyphs}
use Rattle.shapers_buffer.specs.LookupRecords.{record_for}
use Rattle.shapers_buffer.specs.Properties.{no_ligature}
use Rattle.shapers_buffer.specs.declared.buffer.lig_props.LigProps.{LigProps}
use Rattle.opentype_font.specs.Lookups.{substituted_by}
use Rattle.shapers_break_laws.specs.Pieces.{BreaksWhereCleared, CutWhereClear}
use Rattle.shapers_editing.specs.PipelineBreaks.{AreAsIn, IsPiece, Numbering}
use Rattle.opentype_break_laws.specs.TwoSingles.{first_lookup}

-- GSUB with two lookups: the first one, of type 6, gives a 2 before a 3 to the second one, of type
-- 1, by which a 2 becomes a 5
abbrev pub one_context : List ℕ
one_context = (0 ∷ 1 ∷ 0 ∷ 0 ∷ 0 ∷ 0 ∷ 0 ∷ 0 ∷ 0 ∷ 10 ∷ 0 ∷ 2 ∷ 0 ∷ 6 ∷ 0 ∷ 44 ∷ [])
    ++ (((0 ∷ 6 ∷ 0 ∷ 0 ∷ 0 ∷ 1 ∷ 0 ∷ 8 ∷ [])
    ++ ((0 ∷ 3 ∷ 0 ∷ 0 ∷ 0 ∷ 1 ∷ 0 ∷ 18 ∷ 0 ∷ 1 ∷ 0 ∷ 24 ∷ 0 ∷ 1 ∷ 0 ∷ 0 ∷ 0 ∷ 1 ∷ [])
    ++ (0 ∷ 1 ∷ 0 ∷ 1 ∷ 0 ∷ 2 ∷ 0 ∷ 1 ∷ 0 ∷ 1 ∷ 0 ∷ 3 ∷ [])))
    ++ ((0 ∷ 1 ∷ 0 ∷ 0 ∷ 0 ∷ 1 ∷ 0 ∷ 8 ∷ [])
    ++ (0 ∷ 1 ∷ 0 ∷ 6 ∷ 0 ∷ 3 ∷ 0 ∷ 1 ∷ 0 ∷ 1 ∷ 0 ∷ 2 ∷ [])))

-- A text as its lookups begin: each glyph is of the feature that bit 8 of masks stands for, beside
-- its glyph flags, and of no ligature; and the text has the operations that its length gives it.
abbrev pub glyph_begun : Glyph → Glyph
glyph_begun g = record g { mask = 256 + g.mask % 8; lig_props = no_ligature }

abbrev pub lookups_begun : Buffer → Buffer
lookups_begun b = record b {
  glyphs = map glyph_begun b.glyphs;
  lookups = record_for (length b.glyphs);
}

-- what the font's first lookup makes of a text that begins so
abbrev pub put_in_context : Buffer → Buffer
put_in_context b = substituted_by [] one_context first_lookup (lookups_begun b)

-- Glyphs that came of a text of at most 255, at each clear place those that come of its pieces by
-- themselves.
abbrev pub IsPutInPieces : Buffer → Glyphs → Type 0
IsPutInPieces old made = length old.glyphs ≤ 255 → (numbered : Numbering) →
    ((list : List LigProps) → numbered list list ≡ true) → BreaksWhereCleared Glyphs CutWhereClear
    (λ piece part. (one : Buffer) → IsPiece numbered old piece one →
    AreAsIn numbered part (put_in_context one).glyphs) old.glyphs made
