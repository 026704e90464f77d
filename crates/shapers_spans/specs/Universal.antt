-- The rules of Universal syllables.
use Rattle.std.specs.Prelude.{List, [], ◌∷◌}
use Rattle.shapers_spans.specs.Re.{Re, one, star, opt, sequence, any_of}
use Rattle.shapers_spans.specs.Grammar.{Grammar}
use Rattle.shapers_spans.specs.Passing.{begins_passed}

abbrev O : Re
O = one 0

abbrev B : Re
B = one 1

abbrev N : Re
N = one 4

abbrev GB : Re
GB = one 5

abbrev CGJ : Re
CGJ = one 6

abbrev SUB : Re
SUB = one 11

abbrev H : Re
H = one 12

abbrev HN : Re
HN = one 13

abbrev ZWNJ : Re
ZWNJ = one 14

abbrev WJ : Re
WJ = one 16

abbrev R : Re
R = one 18

abbrev CS : Re
CS = one 43

abbrev IS : Re
IS = one 44

abbrev Sk : Re
Sk = one 48

abbrev G : Re
G = one 49

abbrev J : Re
J = one 50

abbrev SB : Re
SB = one 51

abbrev SE : Re
SE = one 52

abbrev HVM : Re
HVM = one 53

abbrev HM : Re
HM = one 54

abbrev HR : Re
HR = one 55

abbrev RK : Re
RK = one 56

abbrev FAbv : Re
FAbv = one 24

abbrev FBlw : Re
FBlw = one 25

abbrev FPst : Re
FPst = one 26

abbrev MAbv : Re
MAbv = one 27

abbrev MBlw : Re
MBlw = one 28

abbrev MPst : Re
MPst = one 29

abbrev MPre : Re
MPre = one 30

abbrev CMAbv : Re
CMAbv = one 31

abbrev CMBlw : Re
CMBlw = one 32

abbrev VAbv : Re
VAbv = one 33

abbrev VBlw : Re
VBlw = one 34

abbrev VPst : Re
VPst = one 35

abbrev VPre : Re
VPre = one 22

abbrev VMAbv : Re
VMAbv = one 37

abbrev VMBlw : Re
VMBlw = one 38

abbrev VMPst : Re
VMPst = one 39

abbrev VMPre : Re
VMPre = one 23

abbrev SMAbv : Re
SMAbv = one 41

abbrev SMBlw : Re
SMBlw = one 42

abbrev FMAbv : Re
FMAbv = one 45

abbrev FMBlw : Re
FMBlw = one 46

abbrev FMPst : Re
FMPst = one 47

abbrev h : Re
h = any_of (H ∷ HVM ∷ IS ∷ Sk ∷ [])

abbrev consonant_modifiers : Re
consonant_modifiers =
    sequence (star CMAbv ∷ star CMBlw ∷ star (sequence (any_of (sequence (h ∷ B ∷ []) ∷ SUB ∷
    []) ∷ star CMAbv ∷ star CMBlw ∷ [])) ∷ [])

abbrev medial_consonants : Re
medial_consonants = sequence (opt MPre ∷ opt MAbv ∷ opt MBlw ∷ opt MPst ∷ [])

abbrev dependent_vowels : Re
dependent_vowels = any_of (sequence (star VPre ∷ star VAbv ∷ star VBlw ∷ star VPst ∷ []) ∷ H ∷ [])

abbrev vowel_modifiers : Re
vowel_modifiers = sequence (opt HVM ∷ star VMPre ∷ star VMAbv ∷ star VMBlw ∷ star VMPst ∷ [])

abbrev final_consonants : Re
final_consonants = sequence (star FAbv ∷ star FBlw ∷ star FPst ∷ [])

abbrev final_modifiers : Re
final_modifiers = any_of (sequence (star FMAbv ∷ star FMBlw ∷ []) ∷ opt FMPst ∷ [])

abbrev complex_syllable_start : Re
complex_syllable_start = sequence (opt (any_of (R ∷ CS ∷ [])) ∷ any_of (B ∷ GB ∷ []) ∷ [])

abbrev complex_syllable_middle : Re
complex_syllable_middle =
    sequence (consonant_modifiers ∷ medial_consonants ∷ dependent_vowels ∷ vowel_modifiers ∷
    star (sequence (Sk ∷ B ∷ [])) ∷ [])

abbrev complex_syllable_tail : Re
complex_syllable_tail = sequence (complex_syllable_middle ∷ final_consonants ∷ final_modifiers ∷ [])

abbrev number_joiner_terminated_cluster_tail : Re
number_joiner_terminated_cluster_tail = sequence (star (sequence (HN ∷ N ∷ [])) ∷ HN ∷ [])

abbrev numeral_cluster_tail : Re
numeral_cluster_tail = sequence (HN ∷ N ∷ star (sequence (HN ∷ N ∷ [])) ∷ [])

abbrev symbol_cluster_tail : Re
symbol_cluster_tail =
    any_of (sequence (SMAbv ∷ star SMAbv ∷ star SMBlw ∷ []) ∷ sequence (SMBlw ∷ star SMBlw ∷ []) ∷
    [])

abbrev virama_terminated_cluster_tail : Re
virama_terminated_cluster_tail = sequence (consonant_modifiers ∷ any_of (IS ∷ RK ∷ []) ∷ [])

abbrev virama_terminated_cluster : Re
virama_terminated_cluster = sequence (complex_syllable_start ∷ virama_terminated_cluster_tail ∷ [])

abbrev sakot_terminated_cluster_tail : Re
sakot_terminated_cluster_tail = sequence (complex_syllable_middle ∷ Sk ∷ [])

abbrev sakot_terminated_cluster : Re
sakot_terminated_cluster = sequence (complex_syllable_start ∷ sakot_terminated_cluster_tail ∷ [])

abbrev standard_cluster : Re
standard_cluster = sequence (complex_syllable_start ∷ complex_syllable_tail ∷ [])

abbrev tail : Re
tail =
    any_of (complex_syllable_tail ∷ sakot_terminated_cluster_tail ∷ symbol_cluster_tail ∷
    virama_terminated_cluster_tail ∷ [])

abbrev broken_cluster : Re
broken_cluster =
    sequence (opt R ∷ any_of (tail ∷ number_joiner_terminated_cluster_tail ∷
    numeral_cluster_tail ∷ []) ∷ [])

abbrev number_joiner_terminated_cluster : Re
number_joiner_terminated_cluster = sequence (N ∷ number_joiner_terminated_cluster_tail ∷ [])

abbrev numeral_cluster : Re
numeral_cluster = sequence (N ∷ opt numeral_cluster_tail ∷ [])

abbrev symbol_cluster : Re
symbol_cluster = sequence (any_of (O ∷ GB ∷ SB ∷ []) ∷ opt tail ∷ [])

abbrev hieroglyph_cluster : Re
hieroglyph_cluster =
    sequence (star SB ∷ G ∷ opt HR ∷ opt HM ∷ star SE ∷ star (sequence (J ∷ star SB ∷
    opt (sequence (G ∷ opt HR ∷ opt HM ∷ star SE ∷ [])) ∷ [])) ∷ [])

-- each rule, in their order
unfoldable pub universal_rules : List Re
universal_rules =
    sequence (virama_terminated_cluster ∷ opt ZWNJ ∷ []) ∷
    sequence (sakot_terminated_cluster ∷ opt ZWNJ ∷ []) ∷
    sequence (standard_cluster ∷ opt ZWNJ ∷ []) ∷
    sequence (number_joiner_terminated_cluster ∷ opt ZWNJ ∷ []) ∷
    sequence (numeral_cluster ∷ opt ZWNJ ∷ []) ∷
    sequence (symbol_cluster ∷ opt ZWNJ ∷ []) ∷
    sequence (hieroglyph_cluster ∷ opt ZWNJ ∷ []) ∷
    FMPst ∷
    sequence (broken_cluster ∷ opt ZWNJ ∷ []) ∷ []

unfoldable pub universal_grammar : Grammar
universal_grammar = record {
  rules = universal_rules;
  kinds = 0 ∷ 1 ∷ 2 ∷ 3 ∷ 4 ∷ 5 ∷ 6 ∷ 8 ∷ 7 ∷ [];
  other = 8;
  passes = begins_passed;
}
