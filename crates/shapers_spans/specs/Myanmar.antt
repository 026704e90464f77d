-- The rules of Myanmar syllables.
use Rattle.std.specs.Prelude.{List, [], ◌∷◌}
use Rattle.shapers_spans.specs.Re.{Re, one, star, opt, sequence, any_of}
use Rattle.shapers_spans.specs.Grammar.{Grammar}
use Rattle.shapers_spans.specs.Passing.{none_passed}

abbrev C : Re
C = one 1

abbrev IV : Re
IV = one 2

abbrev DB : Re
DB = one 3

abbrev H : Re
H = one 4

abbrev ZWNJ : Re
ZWNJ = one 5

abbrev ZWJ : Re
ZWJ = one 6

abbrev SM : Re
SM = one 8

abbrev GB : Re
GB = one 10

abbrev DOTTEDCIRCLE : Re
DOTTEDCIRCLE = one 11

abbrev A : Re
A = one 9

abbrev Ra : Re
Ra = one 15

abbrev CS : Re
CS = one 18

abbrev SMPst : Re
SMPst = one 57

abbrev VAbv : Re
VAbv = one 20

abbrev VBlw : Re
VBlw = one 21

abbrev VPre : Re
VPre = one 22

abbrev VPst : Re
VPst = one 23

abbrev As : Re
As = one 32

abbrev MH : Re
MH = one 35

abbrev MR : Re
MR = one 36

abbrev MW : Re
MW = one 37

abbrev MY : Re
MY = one 38

abbrev PT : Re
PT = one 39

abbrev VS : Re
VS = one 40

abbrev ML : Re
ML = one 41

abbrev j : Re
j = any_of (ZWJ ∷ ZWNJ ∷ [])

abbrev k : Re
k = sequence (Ra ∷ As ∷ H ∷ [])

abbrev sm : Re
sm = any_of (SM ∷ SMPst ∷ [])

abbrev c : Re
c = any_of (C ∷ Ra ∷ [])

abbrev medial_group : Re
medial_group =
    sequence (opt MY ∷ opt As ∷ opt MR ∷ opt (sequence (any_of (sequence (MW ∷ opt MH ∷ opt ML ∷
    []) ∷ sequence (MH ∷ opt ML ∷ []) ∷ ML ∷ []) ∷ opt As ∷ [])) ∷ [])

abbrev main_vowel_group : Re
main_vowel_group =
    sequence (star (sequence (VPre ∷ opt VS ∷ [])) ∷ star VAbv ∷ star VBlw ∷ star A ∷
    opt (sequence (DB ∷ opt As ∷ [])) ∷ [])

abbrev post_vowel_group : Re
post_vowel_group =
    sequence (VPst ∷ opt MH ∷ opt ML ∷ star As ∷ star VAbv ∷ star A ∷ opt (sequence (DB ∷ opt As ∷
    [])) ∷ [])

abbrev tone_group : Re
tone_group = any_of (sm ∷ sequence (PT ∷ star A ∷ opt DB ∷ opt As ∷ []) ∷ [])

abbrev complex_syllable_tail : Re
complex_syllable_tail =
    sequence (star As ∷ medial_group ∷ main_vowel_group ∷ star post_vowel_group ∷
    star tone_group ∷ opt j ∷ [])

abbrev syllable_tail : Re
syllable_tail =
    sequence (star (sequence (H ∷ any_of (c ∷ IV ∷ []) ∷ opt VS ∷ [])) ∷ any_of (H ∷
    complex_syllable_tail ∷ []) ∷ [])

abbrev consonant_syllable : Re
consonant_syllable =
    sequence (opt (any_of (k ∷ CS ∷ [])) ∷ any_of (c ∷ IV ∷ GB ∷ DOTTEDCIRCLE ∷ []) ∷ opt VS ∷
    syllable_tail ∷ [])

abbrev broken_cluster : Re
broken_cluster = sequence (opt k ∷ opt VS ∷ syllable_tail ∷ [])

-- each rule, in their order
unfoldable pub myanmar_rules : List Re
myanmar_rules =
    consonant_syllable ∷
    any_of (j ∷ SMPst ∷ []) ∷
    broken_cluster ∷ []

unfoldable pub myanmar_grammar : Grammar
myanmar_grammar = record {
  rules = myanmar_rules;
  kinds = 0 ∷ 3 ∷ 2 ∷ [];
  other = 3;
  passes = none_passed;
}
