-- The category and the position of a character in the Indic, Khmer and Myanmar shapers:
-- HarfBuzz's rules over Unicode's syllabic and positional categories (gen-indic-table.py), with
-- SMPst, which HarfRust 0.12.0 has.
use Rattle.std.specs.Prelude.{ℕ, Bool, true, false, List, [], ◌∷◌, Option, Some, None, if◌then◌else◌}
use Rattle.ucd_table.specs.Rows.{Row, in_ranges, value_in}
use Rattle.shapers_unicode.specs.Values.{Block, IndicClass, SignPart, SignPart as part, Positional, Syllabic, Block as blocks, IndicClass as class, Positional as at, Syllabic as is, over}
use Rattle.shapers_unicode.specs.BlockRows.{block_rows}
use Rattle.shapers_unicode.specs.IndicRows.{indic_rows}
use Rattle.shapers_unicode.specs.PositionalRows.{positional_rows}
use Rattle.shapers_unicode.specs.SyllabicRows.{syllabic_rows}

-- the class by syllabic category
abbrev pub indic_class : Syllabic → IndicClass
indic_class is.Consonant = class.C
indic_class is.Consonant_Dead = class.C
indic_class is.Consonant_Head_Letter = class.C
indic_class is.Consonant_Initial_Postfixed = class.C
indic_class is.Vowel = class.V
indic_class is.Vowel_Independent = class.V
indic_class is.Nukta = class.N
indic_class is.Tone_Mark = class.N
indic_class is.Invisible_Stacker = class.H
indic_class is.Virama = class.H
indic_class is.Non_Joiner = class.ZWNJ
indic_class is.Joiner = class.ZWJ
indic_class is.Consonant_Killer = class.M
indic_class is.Pure_Killer = class.M
indic_class is.Reordering_Killer = class.M
indic_class is.Vowel_Dependent = class.M
indic_class is.Bindu = class.SM
indic_class is.Gemination_Mark = class.SM
indic_class is.Syllable_Modifier = class.SM
indic_class is.Visarga = class.SM
indic_class is.Cantillation_Mark = class.A
indic_class is.Brahmi_Joining_Number = class.PLACEHOLDER
indic_class is.Consonant_Placeholder = class.PLACEHOLDER
indic_class is.Number = class.PLACEHOLDER
indic_class is.Number_Joiner = class.PLACEHOLDER
indic_class is.Register_Shifter = class.RS
indic_class is.Consonant_Preceding_Repha = class.Repha
indic_class is.Consonant_Final = class.CM
indic_class is.Consonant_Medial = class.CM
indic_class is.Consonant_Subjoined = class.CM
indic_class is.Consonant_Succeeding_Repha = class.CM
indic_class is.Avagraha = class.Symbol
indic_class is.Consonant_With_Stacker = class.CS
indic_class _ = class.X

-- where the last part of a sign stands
abbrev pub sign_part : Positional → SignPart
sign_part at.NA = part.Nowhere
sign_part at.Left = part.Before
sign_part at.Top = part.Above
sign_part at.Top_And_Left = part.Above
sign_part at.Bottom = part.Beneath
sign_part at.Bottom_And_Left = part.Beneath
sign_part at.Top_And_Bottom = part.Beneath
sign_part at.Top_And_Bottom_And_Left = part.Beneath
sign_part at.Right = part.Behind
sign_part at.Left_And_Right = part.Behind
sign_part at.Top_And_Right = part.Behind
sign_part at.Bottom_And_Right = part.Behind
sign_part at.Top_And_Bottom_And_Right = part.Behind
sign_part at.Top_And_Left_And_Right = part.Behind
sign_part at.Overstruck = part.Onto
sign_part at.Visual_Order_Left = part.First

-- its position
abbrev pub part_position : SignPart → ℕ
part_position part.First = 2
part_position part.Before = 3
part_position part.Onto = 5
part_position part.Above = 6
part_position part.Beneath = 8
part_position part.Behind = 11
part_position part.Nowhere = 14

-- Where a matra goes that stands behind the base, above it or below it, by the script: 5 behind
-- the base, 7 before and 9 behind the consonants below, 12 behind those behind. In Telugu and
-- Kannada a matra behind the base (`early`: 0C41, 0C42; all of Kannada but 0CC3 to 0CD6) goes
-- before those below.
abbrev pub matra_behind : Bool → Block → ℕ
matra_behind true b = 7
matra_behind false blocks.Bengali = 12
matra_behind false blocks.Gurmukhi = 12
matra_behind false blocks.Gujarati = 12
matra_behind false blocks.Oriya = 12
matra_behind false blocks.Tamil = 12
matra_behind false blocks.Malayalam = 12
matra_behind false _ = 9

abbrev pub matra_above : Block → ℕ
matra_above blocks.Gurmukhi = 12
matra_above blocks.Oriya = 5
matra_above blocks.Telugu = 7
matra_above blocks.Kannada = 7
matra_above _ = 9

abbrev pub matra_below : Block → ℕ
matra_below blocks.Gurmukhi = 12
matra_below blocks.Gujarati = 12
matra_below blocks.Tamil = 12
matra_below blocks.Malayalam = 12
matra_below blocks.Telugu = 7
matra_below blocks.Kannada = 7
matra_below _ = 9

unfoldable pub early_matras : List (ℕ × ℕ)
early_matras = (0x0C41, 0x0C42) ∷ (0x0C80, 0x0CC2) ∷ (0x0CD7, 0x0CFF) ∷ []

abbrev pub matra_position : Bool → Block → SignPart → ℕ
matra_position early b part.Before = 2
matra_position early b part.Above = matra_above b
matra_position early b part.Beneath = matra_below b
matra_position early b _ = matra_behind early b

-- In Khmer and Myanmar a matra's category is that of a vowel before the base, above, below,
-- behind.
abbrev pub is_south_east : Block → Bool
is_south_east blocks.Khmer = true
is_south_east blocks.Myanmar = true
is_south_east blocks.Myanmar_Extended_A = true
is_south_east blocks.Myanmar_Extended_B = true
is_south_east blocks.Myanmar_Extended_C = true
is_south_east _ = false

abbrev pub vowel_category : SignPart → ℕ
vowel_category part.Before = 22
vowel_category part.Above = 20
vowel_category part.Beneath = 21
vowel_category _ = 23

-- a matra of this category
abbrev pub as_matra : ℕ → Bool → Block → SignPart → ℕ × ℕ
as_matra category early b last =
    if is_south_east b then (vowel_category last, part_position last)
    else (category, matra_position early b last)

-- Category and position: of consonants and what stands for them the base's (4), of matras as
-- above, of syllable modifiers, accents and symbols 13, of halants and register shifters their
-- own, else none (14).
abbrev pub category_and_position : IndicClass → Bool → Block → SignPart → ℕ × ℕ
category_and_position class.X early b last = (0, 14)
category_and_position class.C early b last = (1, 4)
category_and_position class.V early b last = (2, 4)
category_and_position class.N early b last = (3, 14)
category_and_position class.H early b last = (4, part_position last)
category_and_position class.ZWNJ early b last = (5, 14)
category_and_position class.ZWJ early b last = (6, 14)
category_and_position class.M early b last = as_matra 7 early b last
category_and_position class.SM early b last = (8, 13)
category_and_position class.A early b last = (9, 13)
category_and_position class.PLACEHOLDER early b last = (10, 4)
category_and_position class.DOTTEDCIRCLE early b last = (11, 4)
category_and_position class.RS early b last = (12, part_position last)
category_and_position class.MPst early b last = as_matra 13 early b last
category_and_position class.Repha early b last = (14, 14)
category_and_position class.Ra early b last = (15, 4)
category_and_position class.CM early b last = (16, 4)
category_and_position class.Symbol early b last = (17, 13)
category_and_position class.CS early b last = (18, 4)
category_and_position class.Robatic early b last = (25, 14)
category_and_position class.Xgroup early b last = (26, 14)
category_and_position class.Ygroup early b last = (27, 14)
category_and_position class.As early b last = (32, 14)
category_and_position class.MH early b last = (35, 14)
category_and_position class.MR early b last = (36, 14)
category_and_position class.MW early b last = (37, 14)
category_and_position class.MY early b last = (38, 14)
category_and_position class.PT early b last = (39, 14)
category_and_position class.VS early b last = (40, 14)
category_and_position class.ML early b last = (41, 14)
category_and_position class.SMPst early b last = (57, 13)

-- Oriya's candrabindu stands before the consonants below, and Gurmukhi's udaat, a matra without a
-- position of Unicode's, below the base.
unfoldable pub own_pairs : List (Row (Option (ℕ × ℕ)))
own_pairs = (0x0A51, 0x0A51, Some (7, 8)) ∷ (0x0B01, 0x0B01, Some (8, 7)) ∷ []

-- the two categories count in the blocks that the table covers; besides, some characters have
-- HarfBuzz's own class
abbrev pub indic_by : Option (ℕ × ℕ) → Option IndicClass → Block → Bool → Positional → Syllabic →
    ℕ × ℕ
indic_by own k blocks.Another early p s =
    over own (category_and_position (over k class.X) early blocks.Another part.Nowhere)
indic_by own k b early p s =
    over own (category_and_position (over k (indic_class s)) early b (sign_part p))

unfoldable pub indic_categories : ℕ → ℕ × ℕ
indic_categories c =
    indic_by (value_in None own_pairs c) (value_in None indic_rows c)
    (value_in blocks.Another block_rows c) (in_ranges early_matras c)
    (value_in at.NA positional_rows c) (value_in is.Other syllabic_rows c)
