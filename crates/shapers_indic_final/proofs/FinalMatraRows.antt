-- Left matras, computed case by case.
use Prim.Native.String.{String}
use Rattle.std.specs.Prelude.{◌≡◌, ℕ, List, [], ◌∷◌, map, refl}
use Rattle.shapers_buffer.specs.declared.buffer.level.BufferClusterLevel.TheVariants.{MonotoneGraphemes}
use Rattle.shapers_buffer.specs.Glyph.{clusters}
use Rattle.shapers_clusters.specs.Steps.{after_steps}
use Rattle.shapers_indic.proofs.RowWords.{C, H, ZWNJ, ZWJ, M, MPst, N, of, numbers_of, script}
use Rattle.shapers_indic_final.proofs.FinalWords.{marks_at}
use Rattle.shapers_indic_final.specs.FinalMatras.{matra_steps, matra_target, with_matras}

-- order and clusters of a syllable with this base once its left matras are at their place
abbrev at_place : String → ℕ → List (ℕ × ℕ) → List (List ℕ)
at_place tag base ts = numbers_of (with_matras (script tag) base (of ts))
    ∷ clusters (after_steps MonotoneGraphemes (matra_steps (script tag) base (of ts)) (of ts)) ∷ []

-- behind the nearest halant before the base, in front of a ZWNJ
behind_halant : at_place "Deva" 3 ((M, 2) ∷ (C, 3) ∷ (H, 3) ∷ (C, 4) ∷ (M, 9) ∷ [])
    ∷ at_place "Deva" 4 ((M, 2) ∷ (C, 3) ∷ (H, 3) ∷ (ZWNJ, 3) ∷ (C, 4) ∷ [])
    ∷ at_place "Deva" 5 ((M, 2) ∷ (C, 3) ∷ (H, 3) ∷ (C, 3) ∷ (H, 3) ∷ (C, 4) ∷ []) ∷ []
    ≡ ((1 ∷ 2 ∷ 0 ∷ 3 ∷ 4 ∷ []) ∷ (1 ∷ 2 ∷ 0 ∷ 0 ∷ 4 ∷ []) ∷ [])
    ∷ ((1 ∷ 2 ∷ 0 ∷ 3 ∷ 4 ∷ []) ∷ (1 ∷ 2 ∷ 0 ∷ 0 ∷ 0 ∷ []) ∷ [])
    ∷ ((1 ∷ 2 ∷ 3 ∷ 4 ∷ 0 ∷ 5 ∷ []) ∷ (1 ∷ 2 ∷ 3 ∷ 4 ∷ 0 ∷ 0 ∷ []) ∷ []) ∷ []
behind_halant = refl

-- not behind one that a ZWJ follows, but behind one before it; and where there is none, what stands
-- from the first matra up to the base merges
past_zwj : at_place "Deva" 4 ((M, 2) ∷ (C, 3) ∷ (H, 3) ∷ (ZWJ, 3) ∷ (C, 4) ∷ [])
    ∷ at_place "Deva" 6 ((M, 2) ∷ (C, 3) ∷ (H, 3) ∷ (C, 3) ∷ (H, 3) ∷ (ZWJ, 3) ∷ (C, 4) ∷ [])
    ∷ at_place "Deva" 2 ((M, 2) ∷ (C, 3) ∷ (C, 4) ∷ (C, 8) ∷ []) ∷ []
    ≡ ((0 ∷ 1 ∷ 2 ∷ 3 ∷ 4 ∷ []) ∷ (0 ∷ 0 ∷ 0 ∷ 0 ∷ 0 ∷ []) ∷ [])
    ∷ ((1 ∷ 2 ∷ 0 ∷ 3 ∷ 4 ∷ 5 ∷ 6 ∷ []) ∷ (1 ∷ 2 ∷ 0 ∷ 0 ∷ 0 ∷ 0 ∷ 0 ∷ []) ∷ [])
    ∷ ((0 ∷ 1 ∷ 2 ∷ 3 ∷ []) ∷ (0 ∷ 0 ∷ 0 ∷ 3 ∷ []) ∷ []) ∷ []
past_zwj = refl

-- what ends the search for a halant: a vowel sign, either kind; a matra's own halant, be it that a
-- ZWJ follows; at the start
abbrev target : String → ℕ → List (ℕ × ℕ) → ℕ
target tag base ts = matra_target (script tag) base (of ts)

ends : target "Deva" 4 ((M, 2) ∷ (C, 3) ∷ (H, 3) ∷ (M, 3) ∷ (C, 4) ∷ [])
    ∷ target "Deva" 4 ((M, 2) ∷ (C, 3) ∷ (H, 3) ∷ (MPst, 3) ∷ (C, 4) ∷ [])
    ∷ target "Deva" 4 ((M, 2) ∷ (C, 3) ∷ (H, 3) ∷ (H, 2) ∷ (C, 4) ∷ [])
    ∷ target "Deva" 5 ((M, 2) ∷ (C, 3) ∷ (H, 3) ∷ (H, 2) ∷ (ZWJ, 3) ∷ (C, 4) ∷ [])
    ∷ target "Deva" 4 ((M, 2) ∷ (C, 3) ∷ (H, 3) ∷ (N, 3) ∷ (C, 4) ∷ [])
    ∷ target "Deva" 2 ((H, 3) ∷ (M, 2) ∷ (C, 4) ∷ []) ∷ target "Deva" 2 ((H, 3) ∷ (ZWJ, 3) ∷ (C, 4) ∷ []) ∷ []
    ≡ 0 ∷ 0 ∷ 0 ∷ 0 ∷ 2 ∷ 0 ∷ 0 ∷ []
ends = refl

-- ligatures are neither halants nor vowel signs; but a ligature of the category of ZWJ holds a halant
ligatures : map (λ i. matra_target (script "Deva") 5
    (marks_at i 0x20 (of ((M, 2) ∷ (C, 3) ∷ (H, 3) ∷ (H, 3) ∷ (ZWNJ, 3) ∷ (C, 4) ∷ [])))) (1 ∷ 2 ∷ 3 ∷ 4 ∷ [])
    ≡ 3 ∷ 3 ∷ 2 ∷ 3 ∷ []
ligatures = refl

ligated_signs : matra_target (script "Deva") 4 (marks_at 3 0x20 (of ((M, 2) ∷ (C, 3) ∷ (H, 3) ∷ (M, 3) ∷ (C, 4) ∷ [])))
    ∷ matra_target (script "Deva") 4 (marks_at 3 0x20 (of ((M, 2) ∷ (C, 3) ∷ (H, 3) ∷ (ZWJ, 3) ∷ (C, 4) ∷ []))) ∷ []
    ≡ 2 ∷ 0 ∷ []
ligated_signs = refl

-- Malayalam and Tamil: directly before the base, and not past a left matra there
no_half_forms : at_place "Mlym" 3 ((M, 2) ∷ (C, 3) ∷ (C, 3) ∷ (C, 4) ∷ [])
    ∷ at_place "Taml" 3 ((M, 2) ∷ (C, 3) ∷ (H, 3) ∷ (C, 4) ∷ []) ∷ at_place "Taml" 2 ((M, 2) ∷ (M, 2) ∷ (C, 4) ∷ [])
    ∷ at_place "Mlym" 3 ((C, 3) ∷ (M, 2) ∷ (M, 2) ∷ (C, 4) ∷ []) ∷ []
    ≡ ((1 ∷ 2 ∷ 0 ∷ 3 ∷ []) ∷ (1 ∷ 2 ∷ 0 ∷ 0 ∷ []) ∷ []) ∷ ((1 ∷ 2 ∷ 0 ∷ 3 ∷ []) ∷ (1 ∷ 2 ∷ 0 ∷ 0 ∷ []) ∷ [])
    ∷ ((0 ∷ 1 ∷ 2 ∷ []) ∷ (0 ∷ 0 ∷ 0 ∷ []) ∷ []) ∷ ((0 ∷ 1 ∷ 2 ∷ 3 ∷ []) ∷ (0 ∷ 1 ∷ 1 ∷ 1 ∷ []) ∷ []) ∷ []
no_half_forms = refl

-- several left matras keep their order; each merges with what stands from its new place up to the base
several : at_place "Deva" 4 ((M, 2) ∷ (M, 2) ∷ (C, 3) ∷ (H, 3) ∷ (C, 4) ∷ [])
    ∷ at_place "Mlym" 5 ((M, 2) ∷ (C, 3) ∷ (M, 2) ∷ (C, 3) ∷ (C, 3) ∷ (C, 4) ∷ []) ∷ []
    ≡ ((2 ∷ 3 ∷ 0 ∷ 1 ∷ 4 ∷ []) ∷ (2 ∷ 3 ∷ 0 ∷ 0 ∷ 0 ∷ []) ∷ [])
    ∷ ((1 ∷ 3 ∷ 4 ∷ 0 ∷ 2 ∷ 5 ∷ []) ∷ (1 ∷ 3 ∷ 4 ∷ 0 ∷ 0 ∷ 0 ∷ []) ∷ []) ∷ []
several = refl

-- without a base: before the last glyph
no_base : at_place "Deva" 4 ((M, 2) ∷ (C, 3) ∷ (H, 3) ∷ (C, 3) ∷ [])
    ∷ at_place "Deva" 3 ((M, 2) ∷ (C, 3) ∷ (H, 3) ∷ []) ∷ at_place "Taml" 3 ((M, 2) ∷ (C, 3) ∷ (C, 3) ∷ [])
    ∷ at_place "Taml" 2 ((M, 2) ∷ (C, 3) ∷ []) ∷ [] ≡ ((1 ∷ 2 ∷ 0 ∷ 3 ∷ []) ∷ (1 ∷ 2 ∷ 0 ∷ 0 ∷ []) ∷ [])
    ∷ ((0 ∷ 1 ∷ 2 ∷ []) ∷ (0 ∷ 0 ∷ 0 ∷ []) ∷ []) ∷ ((1 ∷ 0 ∷ 2 ∷ []) ∷ (1 ∷ 0 ∷ 0 ∷ []) ∷ [])
    ∷ ((0 ∷ 1 ∷ []) ∷ (0 ∷ 0 ∷ []) ∷ []) ∷ []
no_base = refl

-- nothing before a base in front, in a syllable of one, or without a left matra before the base; a
-- matra on the base's place is its
nothing : at_place "Deva" 0 ((C, 4) ∷ (M, 2) ∷ []) ∷ at_place "Taml" 1 ((M, 2) ∷ [])
    ∷ at_place "Deva" 2 ((C, 3) ∷ (H, 3) ∷ (C, 4) ∷ (M, 2) ∷ []) ∷ at_place "Deva" 0 []
    ∷ at_place "Deva" 1 ((C, 3) ∷ (M, 2) ∷ []) ∷ [] ≡ ((0 ∷ 1 ∷ []) ∷ (0 ∷ 1 ∷ []) ∷ []) ∷ ((0 ∷ []) ∷ (0 ∷ []) ∷ [])
    ∷ ((0 ∷ 1 ∷ 2 ∷ 3 ∷ []) ∷ (0 ∷ 1 ∷ 2 ∷ 3 ∷ []) ∷ []) ∷ ([] ∷ [] ∷ []) ∷ ((0 ∷ 1 ∷ []) ∷ (0 ∷ 1 ∷ []) ∷ []) ∷ []
nothing = refl
