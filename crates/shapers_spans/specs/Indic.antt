-- The rules of Indic syllables.
use Rattle.std.specs.Prelude.{List, [], ◌∷◌}
use Rattle.shapers_spans.specs.Re.{Re, one, star, opt, sequence, any_of}
use Rattle.shapers_spans.specs.Grammar.{Grammar}
use Rattle.shapers_spans.specs.Passing.{none_passed}

abbrev X : Re
X = one 0

abbrev C : Re
C = one 1

abbrev V : Re
V = one 2

abbrev N : Re
N = one 3

abbrev H : Re
H = one 4

abbrev ZWNJ : Re
ZWNJ = one 5

abbrev ZWJ : Re
ZWJ = one 6

abbrev M : Re
M = one 7

abbrev SM : Re
SM = one 8

abbrev A : Re
A = one 9

abbrev VD : Re
VD = one 9

abbrev PLACEHOLDER : Re
PLACEHOLDER = one 10

abbrev DOTTEDCIRCLE : Re
DOTTEDCIRCLE = one 11

abbrev RS : Re
RS = one 12

abbrev MPst : Re
MPst = one 13

abbrev Repha : Re
Repha = one 14

abbrev Ra : Re
Ra = one 15

abbrev CM : Re
CM = one 16

abbrev Symbol : Re
Symbol = one 17

abbrev CS : Re
CS = one 18

abbrev SMPst : Re
SMPst = one 57

abbrev c : Re
c = any_of (C ∷ Ra ∷ [])

abbrev n : Re
n = sequence (opt (sequence (opt ZWNJ ∷ RS ∷ [])) ∷ opt (sequence (N ∷ opt N ∷ [])) ∷ [])

abbrev z : Re
z = any_of (ZWJ ∷ ZWNJ ∷ [])

abbrev reph : Re
reph = any_of (sequence (Ra ∷ H ∷ []) ∷ Repha ∷ [])

abbrev sm : Re
sm = any_of (SM ∷ SMPst ∷ [])

abbrev cn : Re
cn = sequence (c ∷ opt ZWJ ∷ opt n ∷ [])

abbrev symbol : Re
symbol = sequence (Symbol ∷ opt N ∷ [])

abbrev matra_group : Re
matra_group =
    sequence (star z ∷ any_of (M ∷ sequence (opt sm ∷ MPst ∷ []) ∷ []) ∷ opt N ∷ opt H ∷ [])

abbrev syllable_tail : Re
syllable_tail =
    sequence (opt (sequence (opt z ∷ sm ∷ opt sm ∷ opt ZWNJ ∷ [])) ∷ star (any_of (A ∷ VD ∷ [])) ∷
    [])

abbrev halant_group : Re
halant_group = sequence (opt z ∷ H ∷ opt (sequence (ZWJ ∷ opt N ∷ [])) ∷ [])

abbrev final_halant_group : Re
final_halant_group = any_of (halant_group ∷ sequence (H ∷ ZWNJ ∷ []) ∷ [])

abbrev medial_group : Re
medial_group = opt CM

abbrev halant_or_matra_group : Re
halant_or_matra_group = any_of (final_halant_group ∷ star matra_group ∷ [])

abbrev complex_syllable_tail : Re
complex_syllable_tail =
    sequence (star (sequence (halant_group ∷ cn ∷ [])) ∷ medial_group ∷ halant_or_matra_group ∷
    syllable_tail ∷ [])

abbrev consonant_syllable : Re
consonant_syllable = sequence (opt (any_of (Repha ∷ CS ∷ [])) ∷ cn ∷ complex_syllable_tail ∷ [])

abbrev vowel_syllable : Re
vowel_syllable = sequence (opt reph ∷ V ∷ opt n ∷ any_of (ZWJ ∷ complex_syllable_tail ∷ []) ∷ [])

abbrev standalone_cluster : Re
standalone_cluster =
    sequence (any_of (sequence (opt (any_of (Repha ∷ CS ∷ [])) ∷ PLACEHOLDER ∷ []) ∷
    sequence (opt reph ∷ DOTTEDCIRCLE ∷ []) ∷ []) ∷ opt n ∷ complex_syllable_tail ∷ [])

abbrev symbol_cluster : Re
symbol_cluster = sequence (symbol ∷ syllable_tail ∷ [])

abbrev broken_cluster : Re
broken_cluster = sequence (opt reph ∷ opt n ∷ complex_syllable_tail ∷ [])

-- each rule, in their order
unfoldable pub indic_rules : List Re
indic_rules =
    consonant_syllable ∷
    vowel_syllable ∷
    standalone_cluster ∷
    symbol_cluster ∷
    SMPst ∷
    broken_cluster ∷ []

unfoldable pub indic_grammar : Grammar
indic_grammar = record {
  rules = indic_rules;
  kinds = 0 ∷ 1 ∷ 2 ∷ 3 ∷ 5 ∷ 4 ∷ [];
  other = 5;
  passes = none_passed;
}
