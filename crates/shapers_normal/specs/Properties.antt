-- The properties of a character, as its glyph keeps them.
use Rattle.std.specs.Prelude.{ℕ, ◌==◌, nat_le, Bool, ◌&&◌, ◌||◌, if◌then◌else◌}
use Rattle.shapers_buffer.specs.Glyphs.{Glyph}
use Rattle.shapers_buffer.specs.declared.buffer.unicode_props.UnicodeProps.{UnicodeProps}
use Rattle.shapers_buffer.specs.Category.{is_mark}
use Rattle.shapers_buffer.specs.Properties.{CONTINUATION, HIDDEN, IGNORABLE, properties, set_property}
use Rattle.shapers_normal.specs.Context.{Context}

-- the combining grapheme joiner, which keeps marks apart
abbrev pub grapheme_joiner : ℕ
grapheme_joiner = 0x034F

-- whether a number is one of those from low to high
abbrev pub is_from_to : ℕ → ℕ → ℕ → Bool
is_from_to low high c = nat_le low c && nat_le c high

-- the ignorable characters that lookups see: Mongolian variation selectors, tags, the grapheme
-- joiner
abbrev pub is_seen_by_lookups : ℕ → Bool
is_seen_by_lookups c =
    is_from_to 0x180B 0x180D c || c == 0x180F || is_from_to 0xE0020 0xE007F c
    || c == grapheme_joiner

-- whether a character is ignorable, and whether it is a mark; none of ASCII's is
abbrev pub is_ignorable_in : Context → ℕ → Bool
is_ignorable_in context c = nat_le 0x80 c && context.ignorable c

abbrev pub is_mark_in : Context → ℕ → Bool
is_mark_in context c = nat_le 0x80 c && is_mark (context.general c)

-- what the high byte of a character's properties holds: 1 for an ignorable zero width joiner, 2 for
-- a non-joiner
abbrev pub joiner_class : ℕ → ℕ
joiner_class c = if c == 0x200D then 1 else if c == 0x200C then 2 else 0

abbrev pub class_byte : Context → ℕ → ℕ
class_byte context c =
    if is_mark_in context c then context.class c
    else if is_ignorable_in context c then joiner_class c else 0

-- the properties of a character
abbrev pub character_properties : Context → ℕ → UnicodeProps
character_properties context c =
    set_property HIDDEN (is_ignorable_in context c && is_seen_by_lookups c)
    (set_property CONTINUATION (is_mark_in context c)
    (set_property IGNORABLE (is_ignorable_in context c)
    (properties (context.general c) (class_byte context c))))

-- the glyph with the number of a glyph in the font, which stands there until lookups run
abbrev pub numbered_as : ℕ → Glyph → Glyph
numbered_as number g = record g { glyph_props = record { 0 = number } }

-- the glyph as a character, whose glyph in the font is kept beside it
abbrev pub as_character : Context → ℕ → ℕ → Glyph → Glyph
as_character context c glyph g = record g {
  glyph_id = c;
  glyph_props = record { 0 = glyph };
  unicode_props = character_properties context c;
}
