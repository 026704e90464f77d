-- What several shapers look up about a character.
use Rattle.std.specs.Prelude.{ℕ, Option, None, if◌then◌else◌}
use Rattle.shapers_buffer.specs.Glyphs.{Glyph}
use Rattle.shapers_buffer.specs.Category.{is_mark}
use Rattle.shapers_base.specs.Font.{CharacterTables}

-- two characters composed by the table; not behind a mark, so that a split vowel stays split
abbrev pub composed_behind : CharacterTables → ℕ → ℕ → Option ℕ
composed_behind t a b = if is_mark (t.general a) then None else t.composed a b

-- the glyph with the category that the table gives its character, and with the position, too
abbrev pub with_category : CharacterTables → Glyph → Glyph
with_category t g = record g { category = (t.indic g.glyph_id).0 }

abbrev pub with_category_and_position : CharacterTables → Glyph → Glyph
with_category_and_position t g =
    record g { category = (t.indic g.glyph_id).0; auxiliary = (t.indic g.glyph_id).1 }
