-- Words of the code's walk, which keeps what is awaited behind the characters so far.
use Rattle.std.specs.Prelude.{ℕ, Bool, false, ◌||◌, List, None, if◌then◌else◌}
use Rattle.shapers_buffer.specs.declared.buffer.category.hb_unicode_general_category_t.{hb_unicode_general_category_t}
use Rattle.shapers_buffer.specs.declared.buffer.unicode_props.UnicodeProps.{UnicodeProps}
use Rattle.shapers_buffer.specs.Properties.{CONTINUATION, HIDDEN, IGNORABLE, properties, set_property}
use Rattle.shapers_prepare.specs.declared.ot_shape_prepare.properties.Awaited.{Awaited}
use Rattle.shapers_prepare.specs.declared.ot_shape_prepare.properties.Awaited.TheVariants.{Joiner, HalfFlag, Nothing}
use Rattle.shapers_prepare.specs.CharacterProperties.{CharacterProperties}
use Rattle.shapers_prepare.specs.GlyphProperties.{always_continues, ends_in_half_flag, ends_joined, is_regional_indicator, is_zero_width_joiner}

-- what is awaited behind these characters
abbrev pub left_awaited : List ℕ → Awaited
left_awaited before =
    if ends_joined before then Joiner else if ends_in_half_flag before then HalfFlag else Nothing

-- what is awaited behind one more
abbrev pub half_flag_behind : Awaited → Awaited
half_flag_behind HalfFlag = Nothing
half_flag_behind _ = HalfFlag

abbrev pub then_awaited : Awaited → ℕ → Awaited
then_awaited open_now c =
    if is_zero_width_joiner c then Joiner
    else if is_regional_indicator c then half_flag_behind open_now else Nothing

-- whether a character that is no mark carries on the grapheme before it
abbrev pub goes_on_behind : CharacterProperties → Awaited → ℕ → Bool
goes_on_behind p Joiner c = always_continues c || p.pictographic c
goes_on_behind p HalfFlag c = always_continues c || is_regional_indicator c
goes_on_behind p Nothing c = always_continues c

-- the properties of a category and a class, and whether a character need not be drawn, carries on
-- the grapheme before it, and is seen by lookups all the same
abbrev pub properties_with : hb_unicode_general_category_t → ℕ → Bool → Bool → Bool → UnicodeProps
properties_with general class ignorable continues hidden =
    set_property HIDDEN hidden (set_property CONTINUATION continues
    (set_property IGNORABLE ignorable (properties general class)))

-- the properties of all characters, if each has this category and class, and need or need not be
-- drawn
abbrev pub of_kind : hb_unicode_general_category_t → ℕ → Bool → CharacterProperties
of_kind general class ignorable = record {
  general = λ _. general;
  class = λ _. class;
  ignorable = λ _. ignorable;
  pictographic = λ _. false;
  mirroring = λ _. None;
  vertical = λ _. None;
}
