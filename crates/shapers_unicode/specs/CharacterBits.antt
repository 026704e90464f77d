-- What is kept of a character in one number, so that one look-up tells its properties.
use Rattle.std.specs.Prelude.{ℕ, ◌+◌, ◌*◌, Bool, if◌then◌else◌}
use Rattle.shapers_buffer.specs.declared.buffer.category.hb_unicode_general_category_t.{hb_unicode_general_category_t}
use Rattle.shapers_buffer.specs.Category.{category_number, is_mark}
use Rattle.shapers_unicode.specs.Classes.{modified_class}
use Rattle.shapers_unicode.specs.General.{category_of_character}
use Rattle.shapers_unicode.specs.Ignorable.{default_ignorable}

-- the number of the category in the lowest five bits, 32 where a font need not draw the character,
-- 128 for a mark, and 256 times the class by which it is ordered: what a glyph keeps of a character
-- that is always drawn
abbrev pub bits_of : hb_unicode_general_category_t → Bool → ℕ → ℕ
bits_of category ignorable class =
    category_number category + (if ignorable then 32 else 0)
    + (if is_mark category then 128 else 0) + 256 * class

unfoldable pub character_bits : ℕ → ℕ
character_bits c = bits_of (category_of_character c) (default_ignorable c) (modified_class c)
