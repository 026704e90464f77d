-- What the two words of a glyph hold beside its syllable and the two bytes of its shaper, each bit
-- where HarfBuzz has it.
use Rattle.std.specs.Prelude.{ℕ, ◌+◌, ◌*◌, ◌/◌, ◌%◌, ◌==◌, ◌-◌, ◌^◌, ◌<◌, ◌≡◌, ◌≢◌, Bool, bit_and, bit_or, slice_index_or, if◌then◌else◌}
use Rattle.shapers_buffer.specs.declared.buffer.category.hb_unicode_general_category_t.{hb_unicode_general_category_t}
use Rattle.shapers_buffer.specs.declared.buffer.category.hb_unicode_general_category_t.TheVariants.{Cn}
use Rattle.shapers_buffer.specs.declared.buffer.glyph_props.GlyphProps.{GlyphProps}
use Rattle.shapers_buffer.specs.declared.buffer.lig_props.LigProps.{LigProps}
use Rattle.shapers_buffer.specs.declared.buffer.unicode_props.UnicodeProps.{UnicodeProps}
use Rattle.shapers_buffer.specs.Category.{categories, category_number, has_class}

-- whether a bit is among these
abbrev pub has_bit : ℕ → ℕ → Bool
has_bit bit bits = bit_and bits bit == bit

-- these bits with one more, without one, and with one on or off
abbrev pub with_bit : ℕ → ℕ → ℕ
with_bit bit bits = bit_or bits bit

abbrev pub without_bit : ℕ → ℕ → ℕ
without_bit bit bits = bits - bit_and bits bit

abbrev pub set_bit : ℕ → Bool → ℕ → ℕ
set_bit bit on bits = if on then with_bit bit bits else without_bit bit bits

-- GLYPH PROPERTIES: what lookups did to the glyph
-- a lookup put it in
abbrev pub SUBSTITUTED : ℕ
SUBSTITUTED = 0x10

-- a lookup put it in for several
abbrev pub LIGATED : ℕ
LIGATED = 0x20

-- a lookup put it in as one of several for one
abbrev pub MULTIPLIED : ℕ
MULTIPLIED = 0x40

-- no mark
abbrev pub no_marks : GlyphProps
no_marks = record { 0 = 0 }

abbrev pub is_substituted : GlyphProps → Bool
is_substituted props = has_bit SUBSTITUTED props.0

abbrev pub is_ligated : GlyphProps → Bool
is_ligated props = has_bit LIGATED props.0

abbrev pub is_multiplied : GlyphProps → Bool
is_multiplied props = has_bit MULTIPLIED props.0

-- these marks with one more, without one, and with one on or off
abbrev pub with_mark : ℕ → GlyphProps → GlyphProps
with_mark mark props = record { 0 = with_bit mark props.0 }

abbrev pub without_mark : ℕ → GlyphProps → GlyphProps
without_mark mark props = record { 0 = without_bit mark props.0 }

abbrev pub set_mark : ℕ → Bool → GlyphProps → GlyphProps
set_mark mark on props = record { 0 = set_bit mark on props.0 }

-- LIGATURES
-- no ligature
abbrev pub no_ligature : LigProps
no_ligature = record { 0 = 0 }

-- The low four bits are the component's number. Where bit 4 is set the glyph is the ligature
-- itself, and they count its components: it is none of them, which reads as 0.
abbrev pub component : LigProps → ℕ
component props = if props.0 / 16 % 2 == 1 then 0 else props.0 % 16

-- with a component, no ligature itself
abbrev pub with_component : ℕ → LigProps → LigProps
with_component component props = record { 0 = props.0 / 32 * 32 + component % 16 }

-- UNICODE PROPERTIES: what the glyph's character is
-- it may stay undrawn (Default_Ignorable_Code_Point)
abbrev pub IGNORABLE : ℕ
IGNORABLE = 0x20

-- lookups see it, though it is ignorable
abbrev pub HIDDEN : ℕ
HIDDEN = 0x40

-- it carries on the grapheme of the one before it
abbrev pub CONTINUATION : ℕ
CONTINUATION = 0x80

-- all zero: category Cc
abbrev pub no_properties : UnicodeProps
no_properties = record { 0 = 0 }

abbrev pub is_ignorable : UnicodeProps → Bool
is_ignorable props = has_bit IGNORABLE props.0

abbrev pub is_hidden : UnicodeProps → Bool
is_hidden props = has_bit HIDDEN props.0

abbrev pub is_continuation : UnicodeProps → Bool
is_continuation props = has_bit CONTINUATION props.0

-- these properties with one bit more, without one, and with one on or off
abbrev pub with_property : ℕ → UnicodeProps → UnicodeProps
with_property property props = record { 0 = with_bit property props.0 }

abbrev pub without_property : ℕ → UnicodeProps → UnicodeProps
without_property property props = record { 0 = without_bit property props.0 }

abbrev pub set_property : ℕ → Bool → UnicodeProps → UnicodeProps
set_property property on props = record { 0 = set_bit property on props.0 }

-- the category is the one of the low five bits' number; Cn for the numbers 30 and 31
unfoldable pub general_category : UnicodeProps → hb_unicode_general_category_t
general_category props = slice_index_or categories (props.0 % 32) Cn

-- the high byte: the combining class, which joiner a format character is, a space's kind
abbrev pub high_byte : UnicodeProps → ℕ
high_byte props = props.0 / 256

-- the combining class: the high byte, but where it says which joiner or which space stands there
unfoldable pub modified_combining_class : UnicodeProps → ℕ
modified_combining_class props = if has_class (general_category props) then high_byte props else 0

-- the properties of a character of this category, with this high byte and none of the three bits
abbrev pub properties : hb_unicode_general_category_t → ℕ → UnicodeProps
properties category byte = record { 0 = category_number category + 256 * byte }

-- With another category. The class stays where both have one; else the high byte is 0.
abbrev pub with_general_category : hb_unicode_general_category_t → UnicodeProps → UnicodeProps
with_general_category category props =
    let class = if has_class category then modified_combining_class props else 0 in
    record { 0 = category_number category + 32 * (props.0 / 32 % 8) + 256 * class }

-- with another high byte; with another class, where the category has one
abbrev pub with_high_byte : ℕ → UnicodeProps → UnicodeProps
with_high_byte byte props = record { 0 = props.0 % 256 + 256 * byte }

abbrev pub with_modified_combining_class : ℕ → UnicodeProps → UnicodeProps
with_modified_combining_class class props =
    if has_class (general_category props) then with_high_byte class props else props

-- LAWS
-- what setting bit k of sixteen does: that bit is on or off as told, each other bit stays, and they
-- stay sixteen
pub record SetsAlone (k : ℕ) (on : Bool) (old new : ℕ) : Type 0 where
  pub its_own : has_bit (2 ^ k) new ≡ on
  pub others : (j : ℕ) → j < 16 → j ≢ k → has_bit (2 ^ j) new ≡ has_bit (2 ^ j) old
  pub sixteen : new < 2 ^ 16

-- so for each bit; the three of a glyph's properties are 4 to 6, those of its character's 5 to 7
abbrev pub BitsAreSetAlone : Type 0
BitsAreSetAlone = (k : ℕ) (on : Bool) (bits : ℕ) → k < 16 → bits < 2 ^ 16 →
    SetsAlone k on bits (set_bit (2 ^ k) on bits)

-- What is set is what is read, and the rest of the word stays: where a bit of the three is set, the
-- category, the high byte and so the class; where the high byte or the class is, the category;
-- where the category is, the class, unless the old one or the new has none.
pub record PropertiesSet (props : UnicodeProps) : Type 0 where
  pub category : (c : hb_unicode_general_category_t) →
      general_category (with_general_category c props) ≡ c
  pub byte : (byte : ℕ) → high_byte (with_high_byte byte props) ≡ byte
  pub category_stays : (byte : ℕ) →
      general_category (with_high_byte byte props) ≡ general_category props
  pub class : (class : ℕ) → modified_combining_class (with_modified_combining_class class props)
      ≡ (if has_class (general_category props) then class else 0)
  pub category_of_class : (class : ℕ) →
      general_category (with_modified_combining_class class props) ≡ general_category props
  pub class_stays : (c : hb_unicode_general_category_t) →
      modified_combining_class (with_general_category c props)
      ≡ (if has_class c then modified_combining_class props else 0)
  pub made : (c : hb_unicode_general_category_t) (byte : ℕ) →
      general_category (properties c byte) ≡ c
  pub made_byte : (c : hb_unicode_general_category_t) (byte : ℕ) →
      high_byte (properties c byte) ≡ byte

pub record BitKeeps (bit : ℕ) (props : UnicodeProps) : Type 0 where
  pub category : (on : Bool) →
      general_category (set_property bit on props) ≡ general_category props
  pub byte : (on : Bool) → high_byte (set_property bit on props) ≡ high_byte props
  pub class : (on : Bool) →
      modified_combining_class (set_property bit on props) ≡ modified_combining_class props

pub record PropertiesAreSet : Type 0 where
  pub set : (props : UnicodeProps) → PropertiesSet props
  pub ignorable : (props : UnicodeProps) → BitKeeps IGNORABLE props
  pub hidden : (props : UnicodeProps) → BitKeeps HIDDEN props
  pub continuation : (props : UnicodeProps) → BitKeeps CONTINUATION props
