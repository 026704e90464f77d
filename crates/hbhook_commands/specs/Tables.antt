-- The tables of the lines.
use Rattle.std.specs.Prelude.{ℕ, ◌==◌, ◌&&◌, List, Option, None, Some, find}
use Rattle.std.specs.Option.{option_map_or}
use Rattle.std.specs.Ordering.{nat_cmp}
use Rattle.std.specs.BTreeMap.{get, BTreeMap}
use Rattle.hbhook_commands.specs.declared.tables.CanonicalPair.{CanonicalPair}
use Rattle.hbhook_commands.specs.declared.tables.CharacterEntry.{CharacterEntry}
use Rattle.hbhook_commands.specs.declared.tables.OtherCharacters.{OtherCharacters}
use Rattle.hbhook_commands.specs.declared.tables.OtherCharacters.TheVariants.{Unicode, Unknown}
use Rattle.shapers_base.specs.Font.{CharacterTables}
use Rattle.shapers_unicode.specs.Answers.{unicode_tables}
use Rattle.shapers_buffer.specs.declared.buffer.category.hb_unicode_general_category_t.TheVariants.{Lo}
use Rattle.shapers_base.specs.declared.plan.joining.hb_arabic_joining_type_t.TheVariants.{U}

-- what holds of a character without a line
abbrev pub default_entry : CharacterEntry
default_entry = record {
  joining_type = U;
  general_category = Lo;
  indic_category = 0;
  indic_position = 14;
  universal_category = 0;
}

-- what a line says of a character
abbrev pub entry_of : BTreeMap ℕ CharacterEntry → ℕ → Option CharacterEntry
entry_of entries c = get nat_cmp entries c

-- the line that says what two characters compose to, and what one decomposes to: the first that
-- names them
abbrev pub pair_of : List CanonicalPair → ℕ → ℕ → Option CanonicalPair
pair_of pairs a b = find (λ pair. (pair.first == a) && (pair.second == b)) pairs

abbrev pub pair_to : List CanonicalPair → ℕ → Option CanonicalPair
pair_to pairs c = find (λ pair. pair.whole == c) pairs

-- what holds of characters without a line
abbrev pub other_tables : OtherCharacters → CharacterTables
other_tables Unicode = unicode_tables
other_tables Unknown = record {
  joining = λ _. default_entry.joining_type;
  general = λ _. default_entry.general_category;
  indic = λ _. (default_entry.indic_category, default_entry.indic_position);
  universal = λ _. default_entry.universal_category;
  composed = λ _ _. None;
  decomposed = λ _. None;
}

-- the tables of the lines, over those of other characters
abbrev pub line_tables : OtherCharacters → BTreeMap ℕ CharacterEntry → List CanonicalPair →
    CharacterTables
line_tables others entries pairs =
    let other = other_tables others in
    record {
      joining = λ c.
          option_map_or (λ entry. entry.joining_type) (entry_of entries c) (other.joining c);
      general = λ c.
          option_map_or (λ entry. entry.general_category) (entry_of entries c) (other.general c);
      indic = λ c. option_map_or (λ entry. (entry.indic_category, entry.indic_position))
          (entry_of entries c) (other.indic c);
      universal = λ c. option_map_or (λ entry. entry.universal_category)
          (entry_of entries c) (other.universal c);
      composed = λ a b.
          option_map_or (λ pair. Some pair.whole) (pair_of pairs a b) (other.composed a b);
      decomposed = λ c. option_map_or (λ pair. Some (pair.first, pair.second))
          (pair_to pairs c) (other.decomposed c);
    }
