-- Characters whose properties Unicode's files, OpenType's pages or HarfBuzz's sources name.
use Rattle.std.proofs.Common.{◌≡◌, true, false, [], ◌∷◌, map, Some, None, refl}
use Rattle.ucd_table.proofs.Computing.{tables}
use Rattle.shapers_base.specs.declared.plan.joining.hb_arabic_joining_type_t.TheVariants as joins
use Rattle.shapers_buffer.specs.declared.buffer.category.hb_unicode_general_category_t.TheVariants as general
use Rattle.shapers_unicode.specs.BlockRows.{block_rows}
use Rattle.shapers_unicode.specs.CharacterBits.{character_bits}
use Rattle.shapers_unicode.specs.ClassRows.{class_rows}
use Rattle.shapers_unicode.specs.Classes.{changed_classes, class_exceptions, modified_class}
use Rattle.shapers_unicode.specs.ExclusionRanges.{exclusion_ranges}
use Rattle.shapers_unicode.specs.General.{category_of_character}
use Rattle.shapers_unicode.specs.GeneralRows.{general_rows}
use Rattle.shapers_unicode.specs.GroupRows.{group_rows}
use Rattle.shapers_unicode.specs.Ignorable.{default_ignorable, drawn_ranges}
use Rattle.shapers_unicode.specs.IgnorableRanges.{ignorable_ranges}
use Rattle.shapers_unicode.specs.Indic.{early_matras, indic_categories, own_pairs}
use Rattle.shapers_unicode.specs.IndicRows.{indic_rows}
use Rattle.shapers_unicode.specs.Joining.{joining_type}
use Rattle.shapers_unicode.specs.JoiningRows.{joining_rows}
use Rattle.shapers_unicode.specs.MappingRows.{mapping_rows}
use Rattle.shapers_unicode.specs.MirroredRows.{mirrored_rows}
use Rattle.shapers_unicode.specs.OtherScriptRanges.{other_script_ranges}
use Rattle.shapers_unicode.specs.Pairs.{composed, decomposed, mirrored, primary_composite}
use Rattle.shapers_unicode.specs.Pictographic.{extended_pictographic}
use Rattle.shapers_unicode.specs.PictographicRanges.{pictographic_ranges}
use Rattle.shapers_unicode.specs.PositionalRows.{positional_rows}
use Rattle.shapers_unicode.specs.SyllabicRows.{syllabic_rows}
use Rattle.shapers_unicode.specs.Universal.{own_categories, positional_changes, syllabic_changes, universal_category}
use Rattle.shapers_unicode.specs.UsePositionalRows.{use_positional_rows}
use Rattle.shapers_unicode.specs.UseSyllabicRows.{use_syllabic_rows}
use Rattle.shapers_unicode.specs.Vertical.{vertical_form, vertical_forms}

-- A, a, 0, space, an unassigned code point, a surrogate, private use, both ends of CJK, the last
categories : map category_of_character (0x41 ∷ 0x61 ∷ 0x30 ∷ 0x20 ∷ 0x378 ∷ 0xD800 ∷ 0xE000 ∷ 0x4E00 ∷ 0x9FFF ∷ 0x10FFFF
    ∷ []) ≡ general.Lu ∷ general.Ll ∷ general.Nd ∷ general.Zs ∷ general.Cn ∷ general.Cs ∷ general.Co ∷ general.Lo
    ∷ general.Lo ∷ general.Cn ∷ []
unfolding tables category_of_character general_rows
categories = refl

-- the number kept of A, a, 0, space, a soft hyphen, acute, Hebrew's sheva, whose class is changed, the grapheme
-- joiner, the joiner, Hangul's filler, an unassigned code point, Tibetan's TSA -PHRU
kept : map character_bits (0x41 ∷ 0x61 ∷ 0x30 ∷ 0x20 ∷ 0xAD ∷ 0x301 ∷ 0x5B0 ∷ 0x34F ∷ 0x200D ∷ 0x3164 ∷ 0x378 ∷ 0xF39 ∷ [])
    ≡ 9 ∷ 5 ∷ 13 ∷ 29 ∷ 33 ∷ 59020 ∷ 5772 ∷ 172 ∷ 33 ∷ 7 ∷ 2 ∷ 32652 ∷ []
unfolding tables character_bits category_of_character general_rows default_ignorable ignorable_ranges drawn_ranges
    modified_class class_rows class_exceptions changed_classes
kept = refl

-- alef, beh, tatweel, Syriac's alaph, dalath and rish, a mark, the joiner, the non-joiner, Phags-pa's
-- superfixed letter RA, A
joinings : map joining_type (0x627 ∷ 0x628 ∷ 0x640 ∷ 0x710 ∷ 0x715 ∷ 0x72A ∷ 0x64B ∷ 0x200D ∷ 0x200C ∷ 0xA872 ∷ 0x41
    ∷ []) ≡ joins.R ∷ joins.D ∷ joins.D ∷ joins.GroupAlaph ∷ joins.GroupDalathRish ∷ joins.GroupDalathRish ∷ joins.T
    ∷ joins.D ∷ joins.U ∷ joins.L ∷ joins.U ∷ []
unfolding tables joining_type group_rows joining_rows
joinings = refl

-- sheva, hiriq, shadda, Telugu's length mark, Thai's SARA U and MAI EK, Tibetan's I and U, TSA -PHRU,
-- PADMA, SAKOT, a grave accent, A
classes : map modified_class (0x5B0 ∷ 0x5B4 ∷ 0x651 ∷ 0xC55 ∷ 0xE38 ∷ 0xE48 ∷ 0xF72 ∷ 0xF74 ∷ 0xF39 ∷ 0xFC6 ∷ 0x1A60
    ∷ 0x300 ∷ 0x41 ∷ []) ≡ 22 ∷ 23 ∷ 27 ∷ 0 ∷ 3 ∷ 107 ∷ 132 ∷ 131 ∷ 127 ∷ 254 ∷ 254 ∷ 230 ∷ 0 ∷ []
unfolding tables modified_class class_rows changed_classes class_exceptions
classes = refl

-- soft hyphen, Hangul's filler, Mongolian's fourth selector, a reserved code point, tags
ignorables : map default_ignorable (0xAD ∷ 0x115F ∷ 0x3164 ∷ 0x180F ∷ 0x2065 ∷ 0x1BCA0 ∷ 0xE0000 ∷ 0xE0FFF ∷ 0xE1000
    ∷ 0x41 ∷ []) ≡ true ∷ false ∷ false ∷ true ∷ true ∷ false ∷ true ∷ true ∷ false ∷ false ∷ []
unfolding tables default_ignorable ignorable_ranges drawn_ranges
ignorables = refl

-- the copyright sign and its neighbours, a heart, what stands before the regional indicators and the
-- first and last of them, what stands before and behind the modifiers and the first and last of them,
-- the last of all and its neighbour, a number sign (which is an emoji only with a keycap)
pictographs : map extended_pictographic (0xA8 ∷ 0xA9 ∷ 0xAA ∷ 0x2764 ∷ 0x1F1E5 ∷ 0x1F1E6 ∷ 0x1F1FF ∷ 0x1F3FA ∷ 0x1F3FB
    ∷ 0x1F3FF ∷ 0x1F400 ∷ 0x1FFFD ∷ 0x1FFFE ∷ 0x23 ∷ []) ≡ false ∷ true ∷ false ∷ true ∷ true ∷ false ∷ false ∷ true
    ∷ false ∷ false ∷ true ∷ true ∷ false ∷ false ∷ []
unfolding tables extended_pictographic pictographic_ranges
pictographs = refl

-- Devanagari's KA, RA, virama, I, AA and candrabindu; superscript two; Kannada's and Telugu's matras;
-- Oriya's candrabindu; Gurmukhi's udaat; Khmer's RO and E; Myanmar's NGA and E; the dotted circle; A
indics : map indic_categories (0x915 ∷ 0x930 ∷ 0x94D ∷ 0x93F ∷ 0x93E ∷ 0x901 ∷ 0xB2 ∷ 0xCBE ∷ 0xCC3 ∷ 0xC41 ∷ 0xB01
    ∷ 0xA51 ∷ 0x179A ∷ 0x17C1 ∷ 0x1004 ∷ 0x1031 ∷ 0x25CC ∷ 0x41 ∷ []) ≡ (1, 4) ∷ (15, 4) ∷ (4, 8) ∷ (7, 2) ∷ (7, 9)
    ∷ (8, 13) ∷ (57, 13) ∷ (7, 7) ∷ (7, 9) ∷ (7, 7) ∷ (8, 7) ∷ (7, 8) ∷ (15, 4) ∷ (22, 3) ∷ (15, 4) ∷ (22, 3) ∷ (11, 4)
    ∷ (0, 14) ∷ []
unfolding tables indic_categories own_pairs indic_rows block_rows early_matras positional_rows syllabic_rows
indics = refl

-- Javanese's KA, pangkon, cakra and pengkal; sakot, al-lakuna, Batak's pangolat (a killer that
-- reorders), the joiner and the non-joiner, the word joiner, a hieroglyph with its joiner, an Arabic
-- letter (which has a shaper of its own), A, Tai Viet's vowel I
universals : map universal_category (0xA98F ∷ 0xA9C0 ∷ 0xA9BF ∷ 0xA9BE ∷ 0x1A60 ∷ 0xDCA ∷ 0x1BF2 ∷ 0x200D ∷ 0x200C
    ∷ 0x2060 ∷ 0x13000 ∷ 0x13430 ∷ 0x628 ∷ 0x41 ∷ 0xAAB2 ∷ []) ≡ 1 ∷ 12 ∷ 28 ∷ 29 ∷ 48 ∷ 53 ∷ 56 ∷ 6 ∷ 14 ∷ 16 ∷ 49 ∷ 50
    ∷ 0 ∷ 0 ∷ 34 ∷ []
unfolding tables universal_category category_of_character general_rows default_ignorable drawn_ranges ignorable_ranges
    joining_type group_rows joining_rows other_script_ranges own_categories positional_changes positional_rows
    syllabic_changes syllabic_rows use_positional_rows use_syllabic_rows
universals = refl

-- A with ring, the angstrom sign, both ends of Hangul's syllables, one with a trailing jamo, A
decompositions : map decomposed (0xC5 ∷ 0x212B ∷ 0xAC00 ∷ 0xAC01 ∷ 0xD7A3 ∷ 0xABFF ∷ 0x41 ∷ []) ≡ Some (0x41, 0x30A)
    ∷ Some (0xC5, 0) ∷ Some (0x1100, 0x1161) ∷ Some (0xAC00, 0x11A8) ∷ Some (0xD788, 0x11C2) ∷ None ∷ None ∷ []
unfolding tables decomposed mapping_rows
decompositions = refl

-- A with ring; Devanagari's QA, which is excluded; a non-starter; jamo to a syllable, its last, with
-- and without a trailing one, and two that don't compose
compositions : composed 0x41 0x30A ∷ composed 0x915 0x93C ∷ composed 0x308 0x301 ∷ composed 0x1100 0x1161
    ∷ composed 0x1112 0x1175 ∷ composed 0xAC00 0x11A8 ∷ composed 0xAC00 0x11A7 ∷ composed 0xAC01 0x11A8 ∷ []
    ≡ Some 0xC5 ∷ None ∷ None ∷ Some 0xAC00 ∷ Some 0xD788 ∷ Some 0xAC01 ∷ None ∷ None ∷ []
unfolding tables composed primary_composite mapping_rows exclusion_ranges
compositions = refl

mirrorings : map mirrored (0x28 ∷ 0x29 ∷ 0xAB ∷ 0xFF63 ∷ 0x41 ∷ []) ≡ Some 0x29 ∷ Some 0x28 ∷ Some 0xBB ∷ Some 0xFF62
    ∷ None ∷ []
unfolding tables mirrored mirrored_rows
mirrorings = refl

-- the first and the last, a comma that isn't wide, A
verticals : map vertical_form (0x2013 ∷ 0xFF5D ∷ 0x2C ∷ 0x41 ∷ []) ≡ Some 0xFE32 ∷ Some 0xFE38 ∷ None ∷ None ∷ []
unfolding vertical_form vertical_forms
verticals = refl
