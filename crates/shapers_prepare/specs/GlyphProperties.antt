-- The properties of each character of a text, as its glyph keeps them, and which characters carry
-- on the grapheme of those before them (Unicode Standard Annex 29, as far as shaping backwards must
-- not take graphemes apart).
use Rattle.std.specs.Prelude.{ℕ, ◌==◌, ◌%◌, nat_le, Bool, not, ◌&&◌, ◌||◌, List, [], map, if◌then◌else◌}
use Rattle.std.specs.List.{suffix_len}
use Rattle.shapers_buffer.specs.Glyphs.{Glyph, Glyphs}
use Rattle.shapers_buffer.specs.declared.buffer.unicode_props.UnicodeProps.{UnicodeProps}
use Rattle.shapers_buffer.specs.Category.{is_mark}
use Rattle.shapers_buffer.specs.Glyph.{characters}
use Rattle.shapers_buffer.specs.Lists.{each_after}
use Rattle.shapers_buffer.specs.Properties.{CONTINUATION, HIDDEN, IGNORABLE, properties, set_property}
use Rattle.shapers_normal.specs.Properties.{is_from_to, is_seen_by_lookups, joiner_class}
use Rattle.shapers_prepare.specs.CharacterProperties.{CharacterProperties}

-- ZWJ, which joins pictographs
abbrev pub zero_width_joiner : ℕ
zero_width_joiner = 0x200D

abbrev pub is_zero_width_joiner : ℕ → Bool
is_zero_width_joiner c = c == zero_width_joiner

-- the letters of a flag, which are two
abbrev pub is_regional_indicator : ℕ → Bool
is_regional_indicator c = is_from_to 0x1F1E6 0x1F1FF c

-- what carries on any grapheme and is no mark by its category: the joiner, the modifiers of an
-- emoji's skin, katakana's half-width voiced and semi-voiced marks, tags
abbrev pub always_continues : ℕ → Bool
always_continues c =
    is_zero_width_joiner c || is_from_to 0xFF9E 0xFF9F c || is_from_to 0x1F3FB 0x1F3FF c
    || is_from_to 0xE0020 0xE007F c

-- whether a text ends with the joiner, and whether it ends with half a flag: with an odd number of
-- regional indicators
abbrev pub ends_joined : List ℕ → Bool
ends_joined before = not (suffix_len is_zero_width_joiner before == 0)

abbrev pub ends_in_half_flag : List ℕ → Bool
ends_in_half_flag before = suffix_len is_regional_indicator before % 2 == 1

-- whether a character need not be drawn, and whether it is a mark; none of ASCII's is
abbrev pub need_not_be_drawn : CharacterProperties → ℕ → Bool
need_not_be_drawn p c = nat_le 0x80 c && p.ignorable c

abbrev pub is_mark_character : CharacterProperties → ℕ → Bool
is_mark_character p c = nat_le 0x80 c && is_mark (p.general c)

-- whether a character carries on the grapheme of those before it: marks and what always does, a
-- pictograph behind the joiner, the second letter of a flag
abbrev pub continues_grapheme : CharacterProperties → List ℕ → ℕ → Bool
continues_grapheme p before c =
    is_mark_character p c || always_continues c || (ends_joined before && p.pictographic c)
    || (ends_in_half_flag before && is_regional_indicator c)

-- what the high byte of a character's properties holds: the class of a mark, or which joiner a
-- character is that need not be drawn
abbrev pub stored_class : CharacterProperties → ℕ → ℕ
stored_class p c =
    if is_mark_character p c then p.class c
    else if need_not_be_drawn p c then joiner_class c else 0

-- what a glyph keeps of its character; lookups see some characters that need not be drawn
abbrev pub stored_properties : CharacterProperties → Bool → ℕ → UnicodeProps
stored_properties p continues c =
    set_property HIDDEN (need_not_be_drawn p c && is_seen_by_lookups c)
    (set_property CONTINUATION continues
    (set_property IGNORABLE (need_not_be_drawn p c)
    (properties (p.general c) (stored_class p c))))

-- a glyph with the properties of its character
abbrev pub with_properties : CharacterProperties → Bool → Glyph → Glyph
with_properties p continues g =
    record g { unicode_props = stored_properties p continues g.glyph_id }

-- the same behind these glyphs
abbrev pub with_properties_behind : CharacterProperties → Glyphs →
    Glyph → Glyph
with_properties_behind p before g =
    with_properties p (continues_grapheme p (characters before) g.glyph_id) g

-- a text with the properties of its characters
abbrev pub properties_set : CharacterProperties → Glyphs → Glyphs
properties_set p gs = map (λ x. with_properties_behind p x.0 x.1) (each_after [] gs)
