-- The category of a character in the universal shaper: Microsoft's rules for its universal
-- shaping engine over Unicode's syllabic and positional categories, as HarfBuzz reads them (gen-
-- use-table.py), with what HarfRust 0.12.0 changes.
use Rattle.std.specs.Prelude.{ℕ, Bool, true, false, ◌&&◌, ◌||◌, List, [], ◌∷◌, Option, Some, None, if◌then◌else◌}
use Rattle.ucd_table.specs.Rows.{Row, in_ranges, value_in}
use Rattle.shapers_base.specs.declared.plan.joining.hb_arabic_joining_type_t.{hb_arabic_joining_type_t}
use Rattle.shapers_base.specs.declared.plan.joining.hb_arabic_joining_type_t.TheVariants as joins
use Rattle.shapers_buffer.specs.Category.{is_mark}
use Rattle.shapers_buffer.specs.declared.buffer.category.hb_unicode_general_category_t.{hb_unicode_general_category_t}
use Rattle.shapers_buffer.specs.declared.buffer.category.hb_unicode_general_category_t.TheVariants as general
use Rattle.shapers_unicode.specs.General.{category_of_character}
use Rattle.shapers_unicode.specs.Ignorable.{default_ignorable, ignorable_property}
use Rattle.shapers_unicode.specs.Joining.{joining_type}
use Rattle.shapers_unicode.specs.Values.{Positional, Syllabic, Positional as at, Syllabic as is, over}
use Rattle.shapers_unicode.specs.OtherScriptRanges.{other_script_ranges}
use Rattle.shapers_unicode.specs.PositionalRows.{positional_rows}
use Rattle.shapers_unicode.specs.SyllabicRows.{syllabic_rows}
use Rattle.shapers_unicode.specs.UsePositionalRows.{use_positional_rows}
use Rattle.shapers_unicode.specs.UseSyllabicRows.{use_syllabic_rows}

-- ---- the two properties, as the engine has them

-- HarfBuzz's changes: Tibetan's and Vedic signs that have a position and no syllabic category
unfoldable pub syllabic_changes : List (Row (Option Syllabic))
syllabic_changes =
    (0x0F18, 0x0F19, Some is.Vowel_Dependent) ∷ (0x0F3E, 0x0F3F, Some is.Vowel_Dependent)
    ∷ (0x1CE2, 0x1CE8, Some is.Cantillation_Mark) ∷ (0x1CED, 0x1CED, Some is.Tone_Mark) ∷ []

-- Unicode's Indic_Syllabic_Category, with Microsoft's changes and HarfBuzz's
abbrev pub use_syllabic : ℕ → Syllabic
use_syllabic c =
    over (value_in None syllabic_changes c)
    (over (value_in None use_syllabic_rows c) (value_in is.Other syllabic_rows c))

-- HarfRust's changes for Tai Viet's vowels, of which those above the base come before the one
-- below, and HarfBuzz's for signs of Grantha and Tirhuta
unfoldable pub positional_changes : List (Row (Option Positional))
positional_changes =
    (0xAAB0, 0xAAB0, Some at.Bottom) ∷ (0xAAB2, 0xAAB3, Some at.Bottom)
    ∷ (0xAAB4, 0xAAB4, Some at.Top) ∷ (0xAAB7, 0xAAB8, Some at.Bottom)
    ∷ (0xAABE, 0xAABE, Some at.Bottom) ∷ (0x11302, 0x11303, Some at.Top)
    ∷ (0x114C1, 0x114C1, Some at.Top) ∷ []

-- Unicode's Indic_Positional_Category, with Microsoft's changes and these
abbrev pub use_positional : ℕ → Positional
use_positional c =
    over (value_in None positional_changes c)
    (over (value_in None use_positional_rows c) (value_in at.NA positional_rows c))

-- ---- categories by position: above, below, before or behind the base

abbrev pub final_by : Positional → ℕ
final_by at.Top = 24
final_by at.Bottom = 25
final_by _ = 26

abbrev pub medial_by : Positional → ℕ
medial_by at.Top = 27
medial_by at.Bottom = 28
medial_by at.Bottom_And_Left = 28
medial_by at.Bottom_And_Right = 28
medial_by at.Left = 30
medial_by at.Top_And_Bottom_And_Left = 30
medial_by _ = 29

-- a sign that changes a consonant
abbrev pub modifier_by : Positional → ℕ
modifier_by at.Top = 31
modifier_by _ = 32

abbrev pub vowel_by : Positional → ℕ
vowel_by at.Top = 33
vowel_by at.Top_And_Bottom = 33
vowel_by at.Top_And_Bottom_And_Right = 33
vowel_by at.Top_And_Right = 33
vowel_by at.Bottom = 34
vowel_by at.Overstruck = 34
vowel_by at.Bottom_And_Right = 34
vowel_by at.Left = 22
vowel_by at.Top_And_Left = 22
vowel_by at.Top_And_Left_And_Right = 22
vowel_by at.Left_And_Right = 22
vowel_by _ = 35

-- a sign that changes a vowel: tones, bindu, visarga
abbrev pub vowel_modifier_by : Positional → ℕ
vowel_modifier_by at.Top = 37
vowel_modifier_by at.Bottom = 38
vowel_modifier_by at.Overstruck = 38
vowel_modifier_by at.Left = 23
vowel_modifier_by _ = 39

abbrev pub symbol_modifier_by : Positional → ℕ
symbol_modifier_by at.Top = 41
symbol_modifier_by _ = 42

abbrev pub final_modifier_by : Positional → ℕ
final_modifier_by at.Top = 45
final_modifier_by at.Bottom = 46
final_modifier_by _ = 47

-- ---- the category

-- the category by syllabic category and position
abbrev pub category_by : Syllabic → Positional → ℕ
category_by is.Other p = 0
category_by is.Avagraha p = 0
category_by is.Consonant_Dead p = 0
category_by is.Modifying_Letter p = 0
category_by is.Consonant p = 1
category_by is.Consonant_Head_Letter p = 1
category_by is.Number p = 1
category_by is.Tone_Letter p = 1
category_by is.Vowel_Independent p = 1
category_by is.Brahmi_Joining_Number p = 4
category_by is.Consonant_Placeholder p = 5
category_by is.Joiner p = 6
category_by is.Consonant_Subjoined p = 11
category_by is.Virama p = 12
category_by is.Number_Joiner p = 13
category_by is.Non_Joiner p = 14
category_by is.Consonant_Preceding_Repha p = 18
category_by is.Consonant_Prefixed p = 18
category_by is.Consonant_With_Stacker p = 43
category_by is.Invisible_Stacker p = 44
category_by is.Hieroglyph p = 49
category_by is.Hieroglyph_Joiner p = 50
category_by is.Hieroglyph_Mark_Begin p = 51
category_by is.Hieroglyph_Segment_Begin p = 51
category_by is.Hieroglyph_Mark_End p = 52
category_by is.Hieroglyph_Segment_End p = 52
category_by is.Hieroglyph_Modifier p = 54
category_by is.Hieroglyph_Mirror p = 55
category_by is.Reordering_Killer p = 56
category_by is.Consonant_Final p = final_by p
category_by is.Consonant_Succeeding_Repha p = final_by p
category_by is.Consonant_Final_Modifier p = final_modifier_by p
category_by is.Syllable_Modifier p = final_modifier_by p
category_by is.Consonant_Initial_Postfixed p = medial_by p
category_by is.Consonant_Medial p = medial_by p
category_by is.Consonant_Killer p = modifier_by p
category_by is.Gemination_Mark p = modifier_by p
category_by is.Nukta p = modifier_by p
category_by is.Symbol_Modifier p = symbol_modifier_by p
category_by is.Pure_Killer p = vowel_by p
category_by is.Vowel p = vowel_by p
category_by is.Vowel_Dependent p = vowel_by p
category_by is.Bindu p = vowel_modifier_by p
category_by is.Cantillation_Mark p = vowel_modifier_by p
category_by is.Register_Shifter p = vowel_modifier_by p
category_by is.Tone_Mark p = vowel_modifier_by p
category_by is.Visarga p = vowel_modifier_by p

-- what is a base if it is a letter (Lo), and a sign otherwise
abbrev pub is_letter_or_sign : Syllabic → Bool
is_letter_or_sign is.Avagraha = true
is_letter_or_sign is.Bindu = true
is_letter_or_sign is.Consonant_Final = true
is_letter_or_sign is.Consonant_Medial = true
is_letter_or_sign is.Consonant_Subjoined = true
is_letter_or_sign is.Vowel = true
is_letter_or_sign is.Vowel_Dependent = true
is_letter_or_sign _ = false

abbrev pub is_other_letter : hb_unicode_general_category_t → Bool
is_other_letter general.Lo = true
is_other_letter _ = false

-- letters that join; a joiner is none
abbrev pub joins_as_letter : hb_arabic_joining_type_t → Syllabic → Bool
joins_as_letter t is.Joiner = false
joins_as_letter joins.U s = false
joins_as_letter joins.T s = false
joins_as_letter joins.X s = false
joins_as_letter _ s = true

abbrev pub has_no_syllabic : Syllabic → Bool
has_no_syllabic is.Other = true
has_no_syllabic _ = false

-- two characters with categories of their own: Sinhala's al-lakuna, which is a halant or changes
-- a vowel (53), and Tai Tham's sakot (48)
unfoldable pub own_categories : List (Row (Option ℕ))
own_categories = (0x0DCA, 0x0DCA, Some 53) ∷ (0x1A60, 0x1A60, Some 48) ∷ []

-- The rules in order: characters of scripts with a shaper of their own are other; marks that are
-- ignorable are passed over, as a grapheme joiner is (6); what joins and letters are bases (1);
-- what is ignorable with no syllabic category is a word joiner (16).
abbrev pub universal_by : Bool → Option ℕ → Bool → Bool → Positional → Syllabic →
    hb_arabic_joining_type_t → hb_unicode_general_category_t → ℕ
universal_by elsewhere own ignorable undrawn p s t g =
    if elsewhere then 0
    else over own
    (if ignorable && is_mark g then 6
    else if joins_as_letter t s || (is_other_letter g && is_letter_or_sign s) then 1
    else if has_no_syllabic s && undrawn then 16
    else category_by s p)

unfoldable pub universal_category : ℕ → ℕ
universal_category c =
    universal_by (in_ranges other_script_ranges c) (value_in None own_categories c)
    (ignorable_property c) (default_ignorable c) (use_positional c) (use_syllabic c)
    (joining_type c) (category_of_character c)
