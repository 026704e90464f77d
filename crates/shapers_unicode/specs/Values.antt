-- The values of properties of the Unicode Character Database that the shapers' categories are made
-- of, by Unicode's names (PropertyValueAliases.txt), and the classes of the shapers.
use Rattle.std.specs.Prelude.{Option, Some, None}

-- Joining_Type
pub data UnicodeJoining : Type 0 where
  C D L R T U : UnicodeJoining

-- the two values of Joining_Group that Syriac's own forms depend on, and all others
pub data JoiningGroup : Type 0 where
  Alaph Dalath_Rish Elsewhere : JoiningGroup

-- Indic_Syllabic_Category, with the universal shaping engine's own values at the end
pub data Syllabic : Type 0 where
  Other Avagraha Bindu Brahmi_Joining_Number Cantillation_Mark Consonant : Syllabic
  Consonant_Dead Consonant_Final Consonant_Head_Letter Consonant_Initial_Postfixed : Syllabic
  Consonant_Killer Consonant_Medial Consonant_Placeholder Consonant_Preceding_Repha : Syllabic
  Consonant_Prefixed Consonant_Subjoined Consonant_Succeeding_Repha : Syllabic
  Consonant_With_Stacker Gemination_Mark Invisible_Stacker Joiner Modifying_Letter : Syllabic
  Non_Joiner Nukta Number Number_Joiner Pure_Killer Register_Shifter : Syllabic
  Reordering_Killer Syllable_Modifier Tone_Letter Tone_Mark Virama Visarga Vowel : Syllabic
  Vowel_Dependent Vowel_Independent Consonant_Final_Modifier Hieroglyph : Syllabic
  Hieroglyph_Joiner Hieroglyph_Mark_Begin Hieroglyph_Mark_End Hieroglyph_Mirror : Syllabic
  Hieroglyph_Modifier Hieroglyph_Segment_Begin Hieroglyph_Segment_End : Syllabic
  Symbol_Modifier : Syllabic

-- Indic_Positional_Category
pub data Positional : Type 0 where
  NA Left Right Top Bottom Left_And_Right Top_And_Bottom Top_And_Left : Positional
  Top_And_Right Bottom_And_Left Bottom_And_Right Top_And_Bottom_And_Left : Positional
  Top_And_Bottom_And_Right Top_And_Left_And_Right Overstruck Visual_Order_Left : Positional

-- what the first says, where it says something, else the second
abbrev pub over : {V : Type 0} → Option V → V → V
over (Some value) other = value
over None other = other

-- the classes of the Indic, Khmer and Myanmar shapers that a character's category begins with
pub data IndicClass : Type 0 where
  X C V N H ZWNJ ZWJ M SM A PLACEHOLDER DOTTEDCIRCLE RS MPst Repha Ra CM Symbol CS : IndicClass
  Robatic Xgroup Ygroup As MH MR MW MY PT VS ML SMPst : IndicClass

-- the blocks that the Indic table covers, and all others
pub data Block : Type 0 where
  Basic_Latin Latin_1_Supplement Devanagari Bengali Gurmukhi Gujarati Oriya Tamil : Block
  Telugu Kannada Malayalam Myanmar Khmer Vedic_Extensions General_Punctuation : Block
  Superscripts_and_Subscripts Devanagari_Extended Myanmar_Extended_A Myanmar_Extended_B : Block
  Myanmar_Extended_C Another : Block

-- where a part of a sign stands to its base; First is what is written before it, and said behind
pub data SignPart : Type 0 where
  Nowhere First Before Onto Above Beneath Behind : SignPart
