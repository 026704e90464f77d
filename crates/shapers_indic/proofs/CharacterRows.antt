-- The characters that compose and decompose otherwise than by the tables, computed.
use Rattle.std.specs.Prelude.{ℕ, ◌≡◌, ◌==◌, ◌+◌, [], ◌∷◌, map, None, Some, refl, if◌then◌else◌}
use Rattle.shapers_base.specs.Font.{CharacterTables}
use Rattle.shapers_base.specs.declared.plan.joining.hb_arabic_joining_type_t.TheVariants as joining
use Rattle.shapers_buffer.specs.declared.buffer.category.hb_unicode_general_category_t.TheVariants.{Lo, Mc}
use Rattle.shapers_indic.specs.Characters.{composed_in_indic, decomposed_in_indic}
use Rattle.shapers_buffer.specs.Glyphs.{Glyph}
use Rattle.shapers_syllabic.specs.Characters.{with_category_and_position}

-- tables that compose any pair to 7 and take any character apart into itself and 1; 09C7 is a mark
abbrev tables : CharacterTables
tables = record {
  joining = λ _. joining.U;
  general = λ c. if c == 0x09C7 then Mc else Lo;
  indic = λ c. (c + 1, c + 2);
  universal = λ _. 0;
  composed = λ a b. Some 7;
  decomposed = λ c. Some (c, 1);
}

abbrev without_pairs : CharacterTables
without_pairs = record tables { composed = λ a b. None; decomposed = λ c. None }

-- tables that take YA for a mark
abbrev all_marks : CharacterTables
all_marks = record tables { general = λ c. Mc }

-- YYA, whatever the table says; each neighbour by the table
ya_nukta : composed_in_indic tables 0x09AF 0x09BC ∷ composed_in_indic without_pairs 0x09AF 0x09BC ∷ []
    ≡ Some 0x09DF ∷ Some 0x09DF ∷ []
ya_nukta = refl

neighbours : composed_in_indic tables 0x09AE 0x09BC ∷ composed_in_indic tables 0x09B0 0x09BC
    ∷ composed_in_indic tables 0x09AF 0x09BB ∷ composed_in_indic tables 0x09AF 0x09BD
    ∷ composed_in_indic tables 0x09BC 0x09AF ∷ composed_in_indic without_pairs 0x09AF 0x09BD ∷ [] ≡ Some 7 ∷ Some 7
    ∷ Some 7 ∷ Some 7 ∷ Some 7 ∷ None ∷ []
neighbours = refl

-- a mark composes with nothing, YA too if the table calls it one
marks : composed_in_indic tables 0x09C7 0x09BE ∷ composed_in_indic all_marks 0x09AF 0x09BC ∷ [] ≡ None ∷ None ∷ []
marks = refl

-- four letters stay whole, and their neighbours don't
whole : map (decomposed_in_indic tables) (0x0931 ∷ 0x09DC ∷ 0x09DD ∷ 0x0B94 ∷ []) ≡ None ∷ None ∷ None ∷ None ∷ []
whole = refl

taken_apart : map (decomposed_in_indic tables) (0x0930 ∷ 0x0932 ∷ 0x09DB ∷ 0x09DE ∷ 0x09DF ∷ 0x0B93 ∷ 0x0B95 ∷ [])
    ≡ Some (0x0930, 1) ∷ Some (0x0932, 1) ∷ Some (0x09DB, 1) ∷ Some (0x09DE, 1) ∷ Some (0x09DF, 1) ∷ Some (0x0B93, 1)
    ∷ Some (0x0B95, 1) ∷ []
taken_apart = refl

by_the_table : decomposed_in_indic without_pairs 0x0930 ≡ None
by_the_table = refl

-- category and position by the table, each in its byte, and nothing else changes
abbrev full : ℕ → ℕ → Glyph
full category position = record {
  glyph_id = 40;
  mask = 5;
  cluster = 3;
  glyph_props = record { 0 = 0x7E };
  lig_props = record { 0 = 0xE3 };
  syllable = 0x21;
  unicode_props = record { 0 = 0x09AC };
  category = category;
  auxiliary = position;
}

set_by_the_table : with_category_and_position tables (full 9 9) ≡ full 41 42
set_by_the_table = refl
