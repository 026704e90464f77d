-- The rules of Khmer syllables.
use Rattle.std.specs.Prelude.{List, [], ◌∷◌}
use Rattle.shapers_spans.specs.Re.{Re, one, star, opt, sequence, any_of}
use Rattle.shapers_spans.specs.Grammar.{Grammar}
use Rattle.shapers_spans.specs.Passing.{none_passed}

abbrev C : Re
C = one 1

abbrev V : Re
V = one 2

abbrev H : Re
H = one 4

abbrev ZWNJ : Re
ZWNJ = one 5

abbrev ZWJ : Re
ZWJ = one 6

abbrev PLACEHOLDER : Re
PLACEHOLDER = one 10

abbrev DOTTEDCIRCLE : Re
DOTTEDCIRCLE = one 11

abbrev Ra : Re
Ra = one 15

abbrev VAbv : Re
VAbv = one 20

abbrev VBlw : Re
VBlw = one 21

abbrev VPre : Re
VPre = one 22

abbrev VPst : Re
VPst = one 23

abbrev Robatic : Re
Robatic = one 25

abbrev Xgroup : Re
Xgroup = one 26

abbrev Ygroup : Re
Ygroup = one 27

abbrev c : Re
c = any_of (C ∷ Ra ∷ V ∷ [])

abbrev cn : Re
cn = sequence (c ∷ opt (sequence (opt (any_of (ZWJ ∷ ZWNJ ∷ [])) ∷ Robatic ∷ [])) ∷ [])

abbrev joiner : Re
joiner = any_of (ZWJ ∷ ZWNJ ∷ [])

abbrev xgroup : Re
xgroup = star (sequence (star joiner ∷ Xgroup ∷ []))

abbrev ygroup : Re
ygroup = star Ygroup

abbrev matra_group : Re
matra_group =
    sequence (opt VPre ∷ xgroup ∷ opt VBlw ∷ xgroup ∷ opt (sequence (opt joiner ∷ VAbv ∷ [])) ∷
    xgroup ∷ opt VPst ∷ [])

abbrev syllable_tail : Re
syllable_tail = sequence (xgroup ∷ matra_group ∷ xgroup ∷ opt (sequence (H ∷ c ∷ [])) ∷ ygroup ∷ [])

abbrev broken_cluster : Re
broken_cluster =
    sequence (opt Robatic ∷ star (sequence (H ∷ cn ∷ [])) ∷ any_of (H ∷ syllable_tail ∷ []) ∷ [])

abbrev consonant_syllable : Re
consonant_syllable = sequence (any_of (cn ∷ PLACEHOLDER ∷ DOTTEDCIRCLE ∷ []) ∷ broken_cluster ∷ [])

-- each rule, in their order
unfoldable pub khmer_rules : List Re
khmer_rules =
    consonant_syllable ∷
    broken_cluster ∷ []

unfoldable pub khmer_grammar : Grammar
khmer_grammar = record {
  rules = khmer_rules;
  kinds = 0 ∷ 1 ∷ [];
  other = 2;
  passes = none_passed;
}
