-- The bits of a glyph's two words by their numbers, what each setter changes, and the glyphs that bear them, written out.
use Rattle.std.specs.Prelude.{◌≡◌, ℕ, ◌^◌, Bool, true, false, List, [], ◌∷◌, map, refl}
use Rattle.shapers_buffer.specs.declared.buffer.category.hb_unicode_general_category_t.TheVariants.{Cc, Cf, Cn, Lo, Mc, Me, Mn, Nd, Zs}
use Rattle.shapers_buffer.specs.declared.buffer.glyph_props.GlyphProps.{GlyphProps}
use Rattle.shapers_buffer.specs.declared.buffer.glyph_props.TheConstants.GlyphProps as glyph_constant
use Rattle.shapers_buffer.specs.declared.buffer.lig_props.LigProps.{LigProps}
use Rattle.shapers_buffer.specs.declared.buffer.lig_props.TheConstants.LigProps as ligature_constant
use Rattle.shapers_buffer.specs.declared.buffer.unicode_props.UnicodeProps.{UnicodeProps}
use Rattle.shapers_buffer.specs.declared.buffer.unicode_props.TheConstants.UnicodeProps as unicode_constant
use Rattle.shapers_buffer.proofs.CategoryRows.{all_thirty}
use Rattle.shapers_buffer.specs.Glyph.{default_glyph}
use Rattle.shapers_buffer.specs.Properties.{SUBSTITUTED, LIGATED, MULTIPLIED, IGNORABLE, HIDDEN, CONTINUATION, component, general_category, high_byte, is_substituted, is_ligated, is_multiplied, is_ignorable, is_hidden, is_continuation, modified_combining_class, no_ligature, no_marks, no_properties, properties, with_component, with_mark, with_general_category, with_high_byte, with_modified_combining_class, with_property, without_mark, without_property, set_mark, set_property}

abbrev marks : ℕ → GlyphProps
marks bits = record { 0 = bits }

abbrev of_ligature : ℕ → LigProps
of_ligature bits = record { 0 = bits }

abbrev character : ℕ → UnicodeProps
character bits = record { 0 = bits }

-- HarfBuzz's numbers of them, in the definitions and in the program
mark_numbers : SUBSTITUTED ∷ LIGATED ∷ MULTIPLIED ∷ [] ≡ 0x10 ∷ 0x20 ∷ 0x40 ∷ []
mark_numbers = refl

property_numbers : IGNORABLE ∷ HIDDEN ∷ CONTINUATION ∷ [] ≡ 0x20 ∷ 0x40 ∷ 0x80 ∷ []
property_numbers = refl

as_bits : 2 ^ 4 ∷ 2 ^ 5 ∷ 2 ^ 6 ∷ 2 ^ 5 ∷ 2 ^ 6 ∷ 2 ^ 7 ∷ [] ≡ SUBSTITUTED ∷ LIGATED ∷ MULTIPLIED ∷ IGNORABLE ∷ HIDDEN
    ∷ CONTINUATION ∷ []
as_bits = refl

glyph_classes : glyph_constant.BASE_GLYPH ∷ glyph_constant.LIGATURE ∷ glyph_constant.MARK ∷ [] ≡ marks 0x02 ∷ marks 0x04
    ∷ marks 0x08 ∷ []
glyph_classes = refl

glyph_constants : glyph_constant.SUBSTITUTED ∷ glyph_constant.LIGATED ∷ glyph_constant.MULTIPLIED ∷ glyph_constant.NONE
    ∷ [] ≡ marks 0x10 ∷ marks 0x20 ∷ marks 0x40 ∷ marks 0 ∷ []
glyph_constants = refl

unicode_constants : unicode_constant.IGNORABLE ∷ unicode_constant.HIDDEN ∷ unicode_constant.CONTINUATION
    ∷ unicode_constant.NONE ∷ [] ≡ character 0x20 ∷ character 0x40 ∷ character 0x80 ∷ character 0 ∷ []
unicode_constants = refl

ligature_constants : ligature_constant.NONE ≡ of_ligature 0
ligature_constants = refl

nothing : no_marks ≡ marks 0
nothing = refl

no_character : no_properties ≡ character 0
no_character = refl

none_of_several : no_ligature ≡ of_ligature 0
none_of_several = refl

-- what the three readers of each say, bit by bit: no other bit is read
abbrev read_marks : ℕ → List Bool
read_marks bits = is_substituted (marks bits) ∷ is_ligated (marks bits) ∷ is_multiplied (marks bits) ∷ []

abbrev read_properties : ℕ → List Bool
read_properties bits =
    is_ignorable (character bits) ∷ is_hidden (character bits) ∷ is_continuation (character bits) ∷ []

marks_alone : map read_marks (0 ∷ 0x10 ∷ 0x20 ∷ 0x40 ∷ 0x70 ∷ 0xFF8F ∷ []) ≡ (false ∷ false ∷ false ∷ [])
    ∷ (true ∷ false ∷ false ∷ []) ∷ (false ∷ true ∷ false ∷ []) ∷ (false ∷ false ∷ true ∷ [])
    ∷ (true ∷ true ∷ true ∷ []) ∷ (false ∷ false ∷ false ∷ []) ∷ []
marks_alone = refl

all_marks_but_one : map read_marks (0xFFEF ∷ 0xFFDF ∷ 0xFFBF ∷ []) ≡ (false ∷ true ∷ true ∷ [])
    ∷ (true ∷ false ∷ true ∷ []) ∷ (true ∷ true ∷ false ∷ []) ∷ []
all_marks_but_one = refl

properties_alone : map read_properties (0 ∷ 0x20 ∷ 0x40 ∷ 0x80 ∷ 0xE0 ∷ 0xFF1F ∷ []) ≡ (false ∷ false ∷ false ∷ [])
    ∷ (true ∷ false ∷ false ∷ []) ∷ (false ∷ true ∷ false ∷ []) ∷ (false ∷ false ∷ true ∷ [])
    ∷ (true ∷ true ∷ true ∷ []) ∷ (false ∷ false ∷ false ∷ []) ∷ []
properties_alone = refl

all_properties_but_one : map read_properties (0xFFDF ∷ 0xFFBF ∷ 0xFF7F ∷ []) ≡ (false ∷ true ∷ true ∷ [])
    ∷ (true ∷ false ∷ true ∷ []) ∷ (true ∷ true ∷ false ∷ []) ∷ []
all_properties_but_one = refl

-- a bit that is set or cleared, and was so or not; the others stay
mark_set : map (λ bits. set_mark MULTIPLIED true (marks bits)) (0 ∷ 0x40 ∷ 0xFFBF ∷ 0xFFFF ∷ []) ≡ marks 0x40
    ∷ marks 0x40 ∷ marks 0xFFFF ∷ marks 0xFFFF ∷ []
mark_set = refl

mark_cleared : map (λ bits. set_mark MULTIPLIED false (marks bits)) (0 ∷ 0x40 ∷ 0xFFBF ∷ 0xFFFF ∷ []) ≡ marks 0 ∷ marks 0
    ∷ marks 0xFFBF ∷ marks 0xFFBF ∷ []
mark_cleared = refl

property_set : map (λ bits. set_property HIDDEN true (character bits)) (0 ∷ 0x40 ∷ 0xFFBF ∷ 0xFFFF ∷ [])
    ≡ character 0x40 ∷ character 0x40 ∷ character 0xFFFF ∷ character 0xFFFF ∷ []
property_set = refl

property_cleared : map (λ bits. set_property HIDDEN false (character bits)) (0 ∷ 0x40 ∷ 0xFFBF ∷ 0xFFFF ∷ [])
    ≡ character 0 ∷ character 0 ∷ character 0xFFBF ∷ character 0xFFBF ∷ []
property_cleared = refl

one_mark_set : map (λ mark. with_mark mark (marks 0)) (0x10 ∷ 0x20 ∷ 0x40 ∷ []) ≡ marks 0x10 ∷ marks 0x20 ∷ marks 0x40
    ∷ []
one_mark_set = refl

one_mark_cleared : map (λ mark. without_mark mark (marks 0xFFFF)) (0x10 ∷ 0x20 ∷ 0x40 ∷ []) ≡ marks 0xFFEF
    ∷ marks 0xFFDF ∷ marks 0xFFBF ∷ []
one_mark_cleared = refl

one_property_set : map (λ bit. with_property bit (character 0)) (0x20 ∷ 0x40 ∷ 0x80 ∷ []) ≡ character 0x20
    ∷ character 0x40 ∷ character 0x80 ∷ []
one_property_set = refl

one_property_cleared : map (λ bit. without_property bit (character 0xFFFF)) (0x20 ∷ 0x40 ∷ 0x80 ∷ [])
    ≡ character 0xFFDF ∷ character 0xFFBF ∷ character 0xFF7F ∷ []
one_property_cleared = refl

-- the component: of a ligature itself 0, of another the low four bits
components : map (λ bits. component (of_ligature bits))
    (0 ∷ 1 ∷ 15 ∷ 0x0F ∷ 0x10 ∷ 0x1F ∷ 0x20 ∷ 0x2F ∷ 0xE0 ∷ 0xEF ∷ 0xF0 ∷ 0xFF ∷ [])
    ≡ 0 ∷ 1 ∷ 15 ∷ 15 ∷ 0 ∷ 0 ∷ 0 ∷ 15 ∷ 0 ∷ 15 ∷ 0 ∷ 0 ∷ []
components = refl

-- a component set: the ligature's number stays, the glyph is no ligature itself, and four bits count
component_set : map (λ (p : ℕ × ℕ). with_component p.0 (of_ligature p.1))
    ((0, 0xFF) ∷ (1, 0) ∷ (15, 0x10) ∷ (16, 0xE3) ∷ (255, 0x40) ∷ [])
    ≡ map of_ligature (0xE0 ∷ 1 ∷ 15 ∷ 0xE0 ∷ 0x4F ∷ [])
component_set = refl

-- the category is that of the low five bits; 30 and 31 are none
categories_read : map (λ bits. general_category (character bits))
    (0 ∷ 1 ∷ 2 ∷ 10 ∷ 11 ∷ 12 ∷ 13 ∷ 29 ∷ 30 ∷ 31 ∷ 32 ∷ 0xFFEC ∷ 0x10C ∷ [])
    ≡ Cc ∷ Cf ∷ Cn ∷ Mc ∷ Me ∷ Mn ∷ Nd ∷ Zs ∷ Cn ∷ Cn ∷ Cc ∷ Mn ∷ Mn ∷ []
unfolding general_category
categories_read = refl

high_bytes : map (λ bits. high_byte (character bits)) (0 ∷ 255 ∷ 256 ∷ 0x1FF ∷ 0xDC0C ∷ 0xFFFF ∷ [])
    ≡ 0 ∷ 0 ∷ 1 ∷ 1 ∷ 220 ∷ 255 ∷ []
high_bytes = refl

-- each category with byte 220 behind the three bits, then the numbers 30 and 31, which read as Cn: all
-- but Cf and Zs have that class
abbrev in_class_220 : List ℕ
in_class_220 = 0xDCE0 ∷ 0xDCE1 ∷ 0xDCE2 ∷ 0xDCE3 ∷ 0xDCE4 ∷ 0xDCE5 ∷ 0xDCE6 ∷ 0xDCE7 ∷ 0xDCE8 ∷ 0xDCE9 ∷ 0xDCEA ∷ 0xDCEB ∷ 0xDCEC ∷ 0xDCED ∷ 0xDCEE ∷ 0xDCEF ∷ 0xDCF0 ∷ 0xDCF1 ∷ 0xDCF2 ∷ 0xDCF3 ∷ 0xDCF4 ∷ 0xDCF5 ∷ 0xDCF6 ∷ 0xDCF7 ∷ 0xDCF8 ∷ 0xDCF9 ∷ 0xDCFA ∷ 0xDCFB ∷ 0xDCFC ∷ 0xDCFD ∷ 0xDCFE ∷ 0xDCFF ∷ []

classes : map (λ bits. modified_combining_class (character bits)) in_class_220
    ≡ 220 ∷ 0 ∷ 220 ∷ 220 ∷ 220 ∷ 220 ∷ 220 ∷ 220 ∷ 220 ∷ 220 ∷ 220 ∷ 220 ∷ 220 ∷ 220 ∷ 220 ∷ 220 ∷ 220 ∷ 220 ∷ 220 ∷ 220 ∷ 220 ∷ 220 ∷ 220 ∷ 220 ∷ 220 ∷ 220 ∷ 220 ∷ 220 ∷ 220 ∷ 0 ∷ 220 ∷ 220 ∷ []
unfolding modified_combining_class general_category
classes = refl

class_ends : map (λ bits. modified_combining_class (character bits))
    (0x00E7 ∷ 0xFFE7 ∷ 0x000C ∷ 0xFF0C ∷ 0xFF01 ∷ 0xFF1D ∷ []) ≡ 0 ∷ 255 ∷ 0 ∷ 255 ∷ 0 ∷ 0 ∷ []
unfolding modified_combining_class general_category
class_ends = refl

-- what setters make of a word that is all ones and of one that isn't
made : properties Mn 220 ∷ properties Zs 18 ∷ properties Cc 0 ∷ [] ≡ character 0xDC0C ∷ character 0x121D ∷ character 0
    ∷ []
made = refl

-- Mn in place of each, and each in place of Mn: the class and the three bits stay; of Cf and Zs, old or
-- new, the byte is cleared
marks_set : map (λ bits. with_general_category Mn (character bits)) in_class_220
    ≡ map character (0xDCEC ∷ 0xEC ∷ 0xDCEC ∷ 0xDCEC ∷ 0xDCEC ∷ 0xDCEC ∷ 0xDCEC ∷ 0xDCEC ∷ 0xDCEC ∷ 0xDCEC ∷ 0xDCEC ∷ 0xDCEC ∷ 0xDCEC ∷ 0xDCEC ∷ 0xDCEC ∷ 0xDCEC ∷ 0xDCEC ∷ 0xDCEC ∷ 0xDCEC ∷ 0xDCEC ∷ 0xDCEC ∷ 0xDCEC ∷ 0xDCEC ∷ 0xDCEC ∷ 0xDCEC ∷ 0xDCEC ∷ 0xDCEC ∷ 0xDCEC ∷ 0xDCEC ∷ 0xEC ∷ 0xDCEC ∷ 0xDCEC ∷ [])
unfolding modified_combining_class general_category
marks_set = refl

categories_set : map (λ category. with_general_category category (character 0xFFEC)) all_thirty
    ≡ map character (0xFFE0 ∷ 0xE1 ∷ 0xFFE2 ∷ 0xFFE3 ∷ 0xFFE4 ∷ 0xFFE5 ∷ 0xFFE6 ∷ 0xFFE7 ∷ 0xFFE8 ∷ 0xFFE9 ∷ 0xFFEA ∷ 0xFFEB ∷ 0xFFEC ∷ 0xFFED ∷ 0xFFEE ∷ 0xFFEF ∷ 0xFFF0 ∷ 0xFFF1 ∷ 0xFFF2 ∷ 0xFFF3 ∷ 0xFFF4 ∷ 0xFFF5 ∷ 0xFFF6 ∷ 0xFFF7 ∷ 0xFFF8 ∷ 0xFFF9 ∷ 0xFFFA ∷ 0xFFFB ∷ 0xFFFC ∷ 0xFD ∷ [])
unfolding modified_combining_class general_category
categories_set = refl

category_ends : with_general_category Cf (character 0x0101) ∷ with_general_category Zs (character 0x121D)
    ∷ with_general_category Cf (character 0x1254) ∷ with_general_category Lo (character 0x000C)
    ∷ with_general_category Cc (character 0xFFFF) ∷ []
    ≡ map character (0x01 ∷ 0x1D ∷ 0x41 ∷ 0x07 ∷ 0xFFE0 ∷ [])
unfolding modified_combining_class general_category
category_ends = refl

byte_set : with_high_byte 4 (character 0xFFFF) ∷ with_high_byte 255 (character 0x001D) ∷ []
    ≡ character 0x04FF ∷ character 0xFF1D ∷ []
byte_set = refl

-- of every category but Cf and Zs, which stay as they are
class_set : map (λ bits. with_modified_combining_class 25 (character bits)) in_class_220
    ≡ map character (0x19E0 ∷ 0xDCE1 ∷ 0x19E2 ∷ 0x19E3 ∷ 0x19E4 ∷ 0x19E5 ∷ 0x19E6 ∷ 0x19E7 ∷ 0x19E8 ∷ 0x19E9 ∷ 0x19EA ∷ 0x19EB ∷ 0x19EC ∷ 0x19ED ∷ 0x19EE ∷ 0x19EF ∷ 0x19F0 ∷ 0x19F1 ∷ 0x19F2 ∷ 0x19F3 ∷ 0x19F4 ∷ 0x19F5 ∷ 0x19F6 ∷ 0x19F7 ∷ 0x19F8 ∷ 0x19F9 ∷ 0x19FA ∷ 0x19FB ∷ 0x19FC ∷ 0xDCFD ∷ 0x19FE ∷ 0x19FF ∷ [])
unfolding general_category
class_set = refl

class_set_ends : map (λ (p : ℕ × ℕ). with_modified_combining_class p.0 (character p.1))
    ((0, 0xFFE7) ∷ (255, 0x0007) ∷ (0, 0xFF01) ∷ (255, 0x001D) ∷ [])
    ≡ map character (0x00E7 ∷ 0xFF07 ∷ 0xFF01 ∷ 0x001D ∷ [])
unfolding general_category
class_set_ends = refl

default_fields : default_glyph
    ≡ record {
      glyph_id = 0;
      mask = 0;
      cluster = 0;
      glyph_props = marks 0;
      lig_props = of_ligature 0;
      syllable = 0;
      unicode_props = character 0;
      category = 0;
      auxiliary = 0;
    }
default_fields = refl
