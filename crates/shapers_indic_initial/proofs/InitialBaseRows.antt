-- The reph, the limit, where the search ends, and the base, computed case by case.
use Rattle.std.specs.Prelude.{◌≡◌, ℕ, true, false, List, [], ◌∷◌, map, None, refl}
use Rattle.shapers_buffer.specs.Glyphs.{Glyphs}
use Rattle.shapers_base.specs.declared.plan.indic.BaseSearch.TheVariants.{AllConsonants}
use Rattle.shapers_indic.proofs.RowWords.{C, CM, H, ZWNJ, ZWJ, M, Repha, Ra, of, plainly, script, with_row_marks}
use Rattle.shapers_indic_initial.proofs.InitialWords.{rules, no_masks, each_mask, ligated_at, with_reph_of}
use Rattle.shapers_indic_initial.specs.InitialBase.{base_place, has_indic_reph, is_base_candidate, joiner_comes_first, limit, indic_reph_len, search_from, search_start}
use Rattle.shapers_indic_initial.specs.InitialRules.{Rules}
use Rattle.shapers_syllabic.specs.Consonants.{is_consonant}

-- the joiner of Kannada: Ra, H, ZWJ in front, none of them a ligature
abbrev ra_h_zwj : Glyphs
ra_h_zwj = plainly (Ra ∷ H ∷ ZWJ ∷ C ∷ [])

kannada : map (joiner_comes_first (script "Knda")) (ra_h_zwj ∷ plainly (Ra ∷ H ∷ ZWJ ∷ []) ∷ []) ≡ true ∷ true ∷ []
kannada = refl

not_so : map (joiner_comes_first (script "Knda")) (ligated_at 0 ra_h_zwj ∷ ligated_at 1 ra_h_zwj ∷ ligated_at 2 ra_h_zwj
    ∷ plainly (Ra ∷ H ∷ ZWNJ ∷ C ∷ []) ∷ plainly (C ∷ H ∷ ZWJ ∷ C ∷ []) ∷ plainly (Ra ∷ ZWJ ∷ H ∷ [])
    ∷ plainly (Ra ∷ H ∷ []) ∷ plainly (Ra ∷ []) ∷ [] ∷ [])
    ≡ false ∷ false ∷ false ∷ false ∷ false ∷ false ∷ false ∷ false ∷ false ∷ []
not_so = refl

other_scripts : joiner_comes_first (script "Telu") ra_h_zwj ∷ joiner_comes_first None ra_h_zwj ∷ [] ≡ false ∷ false ∷ []
other_scripts = refl

-- written as Ra, H: the third glyph is there and no joiner, be it a ligature of one; rphf has a
-- mask, and the font forms it
abbrev implicit : Rules
implicit = with_reph_of (0 ∷ 1 ∷ []) (rules "Deva" false each_mask)

implicit_rephs : map (indic_reph_len implicit) (plainly (Ra ∷ H ∷ C ∷ []) ∷ plainly (C ∷ C ∷ M ∷ C ∷ [])
    ∷ plainly (Ra ∷ H ∷ ZWJ ∷ []) ∷ plainly (Ra ∷ H ∷ ZWNJ ∷ []) ∷ ligated_at 2 (plainly (Ra ∷ H ∷ ZWJ ∷ []))
    ∷ plainly (Ra ∷ H ∷ []) ∷ plainly (Repha ∷ []) ∷ [] ∷ []) ≡ 2 ∷ 2 ∷ 0 ∷ 0 ∷ 2 ∷ 0 ∷ 0 ∷ 0 ∷ []
implicit_rephs = refl

no_mask : indic_reph_len (with_reph_of (0 ∷ 1 ∷ []) (rules "Deva" false no_masks)) (plainly (Ra ∷ H ∷ C ∷ [])) ≡ 0
no_mask = refl

not_formed : indic_reph_len (with_reph_of (1 ∷ 0 ∷ []) (rules "Deva" false each_mask)) (plainly (Ra ∷ H ∷ C ∷ []))
    ∷ indic_reph_len (with_reph_of (0 ∷ 1 ∷ 2 ∷ []) (rules "Deva" false each_mask)) (plainly (Ra ∷ H ∷ C ∷ [])) ∷ []
    ≡ 0 ∷ 0 ∷ []
not_formed = refl

-- written as Ra, H, ZWJ: the ZWJ is there, be it a ligature, and the font forms it of two or of three
explicit_rephs : map
    (λ ids. indic_reph_len (with_reph_of ids (rules "Telu" false each_mask)) (plainly (Ra ∷ H ∷ ZWJ ∷ C ∷ [])))
    ((0 ∷ 1 ∷ []) ∷ (0 ∷ 1 ∷ 2 ∷ []) ∷ (1 ∷ 2 ∷ []) ∷ []) ≡ 2 ∷ 2 ∷ 0 ∷ []
explicit_rephs = refl

explicit_thirds : map (indic_reph_len (with_reph_of (0 ∷ 1 ∷ []) (rules "Sinh" false each_mask)))
    (plainly (Ra ∷ H ∷ C ∷ []) ∷ plainly (Ra ∷ H ∷ ZWNJ ∷ []) ∷ ligated_at 2 (plainly (Ra ∷ H ∷ ZWJ ∷ []))
    ∷ plainly (Ra ∷ H ∷ []) ∷ []) ≡ 0 ∷ 0 ∷ 2 ∷ 0 ∷ []
explicit_thirds = refl

-- a character of its own, whatever the font says
rephas : map (indic_reph_len (with_reph_of (0 ∷ 1 ∷ []) (rules "Mlym" false each_mask)))
    (plainly (Repha ∷ C ∷ []) ∷ plainly (Repha ∷ []) ∷ plainly (Ra ∷ H ∷ C ∷ []) ∷ plainly (C ∷ Repha ∷ []) ∷ []
    ∷ plainly (Repha ∷ C ∷ M ∷ []) ∷ ligated_at 0 (plainly (Repha ∷ C ∷ [])) ∷ []) ≡ 1 ∷ 1 ∷ 0 ∷ 0 ∷ 0 ∷ 1 ∷ 1 ∷ []
rephas = refl

-- the limit: behind the reph and the joiners after it
limits : limit implicit (plainly (Ra ∷ H ∷ C ∷ [])) ∷ limit implicit (plainly (Ra ∷ H ∷ ZWJ ∷ C ∷ []))
    ∷ limit (with_reph_of (0 ∷ 1 ∷ []) (rules "Telu" false each_mask)) (plainly (Ra ∷ H ∷ ZWJ ∷ ZWNJ ∷ C ∷ ZWJ ∷ []))
    ∷ limit (rules "Mlym" false no_masks) (plainly (Repha ∷ ZWJ ∷ C ∷ []))
    ∷ limit (rules "Mlym" false no_masks) (plainly (Repha ∷ ZWJ ∷ [])) ∷ [] ≡ 2 ∷ 0 ∷ 4 ∷ 2 ∷ 2 ∷ []
limits = refl

-- a ligature of a joiner isn't passed, nor are joiners in front where there is no reph
limits_before_joiners : limit (with_reph_of (0 ∷ 1 ∷ []) (rules "Telu" false each_mask))
    (ligated_at 2 (plainly (Ra ∷ H ∷ ZWJ ∷ ZWJ ∷ C ∷ [])))
    ∷ limit (rules "Deva" false no_masks) (plainly (ZWJ ∷ ZWNJ ∷ C ∷ [])) ∷ [] ≡ 2 ∷ 0 ∷ []
limits_before_joiners = refl

-- where the search ends: behind the last ZWJ that follows an H
ends : map (search_from 0) (plainly (C ∷ H ∷ ZWJ ∷ C ∷ []) ∷ plainly (C ∷ ZWJ ∷ C ∷ [])
    ∷ plainly (C ∷ H ∷ ZWNJ ∷ C ∷ []) ∷ plainly (C ∷ H ∷ ZWJ ∷ C ∷ H ∷ ZWJ ∷ C ∷ []) ∷ plainly (C ∷ H ∷ ZWJ ∷ [])
    ∷ plainly (ZWJ ∷ C ∷ []) ∷ plainly (H ∷ ZWJ ∷ C ∷ []) ∷ []) ≡ 3 ∷ 0 ∷ 0 ∷ 6 ∷ 3 ∷ 0 ∷ 2 ∷ []
ends = refl

-- be they ligatures
ends_with_ligatures : map (search_from 0) (ligated_at 1 (plainly (C ∷ H ∷ ZWJ ∷ C ∷ []))
    ∷ ligated_at 2 (plainly (C ∷ H ∷ ZWJ ∷ C ∷ [])) ∷ []) ≡ 3 ∷ 3 ∷ []
ends_with_ligatures = refl

-- from a limit on: a ZWJ before it doesn't count, one at it does; no further than the last glyph
from_a_limit : search_from 3 (plainly (Ra ∷ H ∷ ZWJ ∷ C ∷ [])) ∷ search_from 2 (plainly (Ra ∷ H ∷ ZWJ ∷ C ∷ []))
    ∷ search_start (rules "Mlym" false no_masks) (plainly (Repha ∷ []))
    ∷ search_start (rules "Mlym" false no_masks) (plainly (Repha ∷ ZWJ ∷ []))
    ∷ search_start (rules "Mlym" false no_masks) (plainly (Repha ∷ ZWJ ∷ C ∷ [])) ∷ [] ≡ 3 ∷ 3 ∷ 0 ∷ 1 ∷ 2 ∷ []
from_a_limit = refl

-- three consonants by their positions: the last that is neither below nor post-base; a post-base
-- one counts before one below; else the first
abbrev base_of : List ℕ → ℕ
base_of ps = base_place (rules "Deva" false no_masks) (of (map (λ p. (C, p)) ps))

by_positions : map base_of ((4 ∷ 4 ∷ 4 ∷ []) ∷ (4 ∷ 4 ∷ 8 ∷ []) ∷ (4 ∷ 8 ∷ 8 ∷ []) ∷ (8 ∷ 8 ∷ 8 ∷ [])
    ∷ (4 ∷ 4 ∷ 11 ∷ []) ∷ (4 ∷ 8 ∷ 11 ∷ []) ∷ (4 ∷ 11 ∷ 8 ∷ []) ∷ (11 ∷ 11 ∷ 8 ∷ []) ∷ (11 ∷ 11 ∷ 11 ∷ [])
    ∷ (8 ∷ 11 ∷ 11 ∷ []) ∷ (8 ∷ 4 ∷ 8 ∷ []) ∷ (4 ∷ 13 ∷ 8 ∷ []) ∷ []) ≡ 2 ∷ 1 ∷ 0 ∷ 0 ∷ 1 ∷ 0 ∷ 1 ∷ 1 ∷ 0 ∷ 0 ∷ 1 ∷ 1
    ∷ []
by_positions = refl

-- what is no consonant isn't one below, so a post-base one doesn't count before it
below_alone : map (base_place (rules "Deva" false no_masks)) (of ((C, 4) ∷ (C, 11) ∷ (M, 8) ∷ [])
    ∷ ligated_at 2 (of ((C, 4) ∷ (C, 11) ∷ (C, 8) ∷ [])) ∷ of ((C, 4) ∷ (C, 11) ∷ (M, 8) ∷ (C, 8) ∷ []) ∷ [])
    ≡ 0 ∷ 0 ∷ 1 ∷ []
below_alone = refl

abbrev categories : List ℕ
categories = 0 ∷ 1 ∷ 2 ∷ 3 ∷ 4 ∷ 5 ∷ 6 ∷ 7 ∷ 8 ∷ 9 ∷ 10 ∷ 11 ∷ 12 ∷ 13 ∷ 14 ∷ 15 ∷ 16 ∷ 17 ∷ 18 ∷ 31 ∷ 32 ∷ 48 ∷ 64
    ∷ 255 ∷ []

-- which categories may be the base, of a C and one more: those behind it at place 1, C V PLACEHOLDER DOTTEDCIRCLE Ra CS
by_categories : map (λ c. base_place (rules "Deva" false no_masks) (plainly (C ∷ c ∷ [])))
    (0 ∷ 1 ∷ 2 ∷ 3 ∷ 4 ∷ 5 ∷ 6 ∷ 7 ∷ 8 ∷ 9 ∷ 10 ∷ 11 ∷ 12 ∷ 13 ∷ 14 ∷ 15 ∷ 16 ∷ 17 ∷ 18 ∷ [])
    ≡ 0 ∷ 1 ∷ 1 ∷ 0 ∷ 0 ∷ 0 ∷ 0 ∷ 0 ∷ 0 ∷ 0 ∷ 1 ∷ 1 ∷ 0 ∷ 0 ∷ 0 ∷ 1 ∷ 0 ∷ 0 ∷ 1 ∷ []
by_categories = refl

a_ligature : base_place (rules "Deva" false no_masks) (ligated_at 1 (plainly (C ∷ C ∷ []))) ≡ 0
a_ligature = refl

-- where all consonants are searched, a medial one (16) too, unless a lookup put it in for several
abbrev among_all : Rules
among_all = record (rules "Deva" false no_masks) { search = AllConsonants }

by_all_categories : map (λ c. base_place among_all (plainly (C ∷ c ∷ []))) (0 ∷ 1 ∷ 2 ∷ 3 ∷ 4 ∷ 5 ∷ 6 ∷ 7 ∷ 8 ∷ 9 ∷ 10
    ∷ 11 ∷ 12 ∷ 13 ∷ 14 ∷ 15 ∷ 16 ∷ 17 ∷ 18 ∷ 31 ∷ 32 ∷ 48 ∷ []) ≡ 0 ∷ 1 ∷ 1 ∷ 0 ∷ 0 ∷ 0 ∷ 0 ∷ 0 ∷ 0 ∷ 0 ∷ 1 ∷ 1 ∷ 0 ∷ 0
    ∷ 0 ∷ 1 ∷ 1 ∷ 0 ∷ 1 ∷ 0 ∷ 0 ∷ 0 ∷ []
by_all_categories = refl

-- these are the consonants
are_consonants : map (λ gs. map (is_base_candidate AllConsonants) gs)
    (plainly categories ∷ map (with_row_marks 0x20) (plainly categories) ∷ [])
    ≡ map (λ gs. map is_consonant gs) (plainly categories ∷ map (with_row_marks 0x20) (plainly categories) ∷ [])
are_consonants = refl

-- a medial one by its position, as any other; alone; behind a reph; of two the last; the first where none is the last
abbrev medials : List Glyphs
medials = of ((C, 4) ∷ (CM, 4) ∷ []) ∷ ligated_at 1 (of ((C, 4) ∷ (CM, 4) ∷ [])) ∷ of ((C, 4) ∷ (CM, 8) ∷ [])
    ∷ of ((C, 4) ∷ (CM, 11) ∷ []) ∷ of ((C, 4) ∷ (C, 11) ∷ (CM, 8) ∷ []) ∷ of ((C, 4) ∷ (CM, 11) ∷ (C, 8) ∷ [])
    ∷ of ((CM, 8) ∷ []) ∷ of ((M, 4) ∷ (CM, 11) ∷ (C, 11) ∷ []) ∷ of ((C, 4) ∷ (H, 4) ∷ (ZWJ, 4) ∷ (CM, 8) ∷ [])
    ∷ of ((Ra, 4) ∷ (H, 4) ∷ (Ra, 8) ∷ (CM, 4) ∷ []) ∷ []

medials_searched : map (base_place among_all) medials ≡ 1 ∷ 0 ∷ 0 ∷ 0 ∷ 1 ∷ 1 ∷ 0 ∷ 1 ∷ 3 ∷ 3 ∷ []
medials_searched = refl

medials_left_out : map (base_place (rules "Deva" false no_masks)) medials ≡ 0 ∷ 0 ∷ 0 ∷ 0 ∷ 0 ∷ 0 ∷ 1 ∷ 2 ∷ 4 ∷ 0 ∷ []
medials_left_out = refl

medial_behind_reph : map (λ r. base_place r (plainly (Ra ∷ H ∷ CM ∷ [])))
    (implicit ∷ record implicit { search = AllConsonants } ∷ []) ≡ 0 ∷ 2 ∷ []
medial_behind_reph = refl

reph_before_medial : map (λ r. has_indic_reph r (plainly (Ra ∷ H ∷ CM ∷ [])))
    (implicit ∷ record implicit { search = AllConsonants } ∷ []) ≡ false ∷ true ∷ []
reph_before_medial = refl

-- nothing else is read: where no medial stands, both find the same
no_medials : map (base_place among_all) (map (λ c. plainly (C ∷ c ∷ C ∷ [])) (0 ∷ 3 ∷ 4 ∷ 6 ∷ 7 ∷ []))
    ≡ map (base_place (rules "Deva" false no_masks)) (map (λ c. plainly (C ∷ c ∷ C ∷ [])) (0 ∷ 3 ∷ 4 ∷ 6 ∷ 7 ∷ []))
no_medials = refl

-- behind a ZWJ that ends the search: the first consonant there, none if there is none
behind_zwj : map (base_place (rules "Deva" false no_masks)) (of ((C, 4) ∷ (H, 4) ∷ (ZWJ, 4) ∷ (C, 8) ∷ (C, 8) ∷ [])
    ∷ plainly (C ∷ H ∷ ZWJ ∷ M ∷ []) ∷ plainly (C ∷ H ∷ ZWJ ∷ []) ∷ plainly (M ∷ []) ∷ []) ≡ 3 ∷ 4 ∷ 3 ∷ 1 ∷ []
behind_zwj = refl

-- with a reph the search ends behind it, and without another base the reph is one; then it is none,
-- unless joiners follow it
rephs : map (λ gs. base_place implicit gs) (plainly (Ra ∷ H ∷ C ∷ []) ∷ plainly (Ra ∷ H ∷ M ∷ [])
    ∷ of ((Ra, 4) ∷ (H, 4) ∷ (C, 8) ∷ []) ∷ []) ≡ 2 ∷ 0 ∷ 2 ∷ []
rephs = refl

with_reph : map (has_indic_reph implicit) (plainly (Ra ∷ H ∷ C ∷ []) ∷ plainly (Ra ∷ H ∷ M ∷ []) ∷ plainly (C ∷ [])
    ∷ []) ≡ true ∷ false ∷ false ∷ []
with_reph = refl

forced : has_indic_reph (with_reph_of (0 ∷ 1 ∷ []) (rules "Telu" false each_mask)) (plainly (Ra ∷ H ∷ ZWJ ∷ M ∷ []))
    ∷ has_indic_reph (rules "Mlym" false no_masks) (plainly (Repha ∷ [])) ∷ has_indic_reph (rules "Mlym" false no_masks)
    (plainly (Repha ∷ ZWJ ∷ M ∷ [])) ∷ has_indic_reph (rules "Mlym" false no_masks)
    (plainly (Repha ∷ ZWJ ∷ ZWJ ∷ M ∷ [])) ∷ has_indic_reph (rules "Mlym" false no_masks) (plainly (Repha ∷ C ∷ []))
    ∷ [] ≡ true ∷ false ∷ false ∷ true ∷ true ∷ []
forced = refl
