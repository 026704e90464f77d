-- A formed pref glyph, computed case by case.
use Prim.Native.String.{String}
use Rattle.std.specs.Prelude.{◌≡◌, ℕ, List, [], ◌∷◌, map, None, Some, refl}
use Rattle.shapers_buffer.specs.Glyphs.{Glyphs}
use Rattle.shapers_buffer.specs.declared.buffer.level.BufferClusterLevel.TheVariants.{MonotoneGraphemes}
use Rattle.shapers_buffer.specs.Glyph.{clusters}
use Rattle.shapers_clusters.specs.Steps.{after_steps}
use Rattle.shapers_indic.proofs.RowWords.{C, H, ZWNJ, ZWJ, M, MPst, Ra, of, numbers_of, script}
use Rattle.shapers_indic_final.proofs.FinalWords.{formed_at, marks_at, mask_given, unformed_at}
use Rattle.shapers_indic_final.specs.FinalPref.{formed_pref, pref_steps, pref_target, with_pref}

-- the first after the base with the mask, if it is formed; whether it is substituted doesn't count
abbrev three : Glyphs
three = of ((C, 4) ∷ (Ra, 11) ∷ (Ra, 11) ∷ [])

which : map (formed_pref 16 0) (three ∷ formed_at 1 three ∷ formed_at 2 three ∷ unformed_at 1 (formed_at 2 three)
    ∷ formed_at 1 (unformed_at 2 three) ∷ formed_at 0 three ∷ marks_at 1 0x20 (unformed_at 1 three)
    ∷ marks_at 1 0x60 (unformed_at 1 three) ∷ marks_at 1 0x20 (mask_given 1 8 three) ∷ [])
    ≡ None ∷ Some 1 ∷ Some 2 ∷ None ∷ Some 1 ∷ None ∷ Some 1 ∷ None ∷ None ∷ []
which = refl

-- where to: directly behind the nearest vowel sign or halant before the base, else to the start; in
-- Malayalam and Tamil to the base
abbrev targets : ℕ → List (ℕ × ℕ) → List ℕ
targets base ts = map (λ tag. pref_target (script tag) base (of ts)) ("Deva" ∷ "Telu" ∷ "Mlym" ∷ "Taml" ∷ [])

where_to : map (targets 3) (((C, 3) ∷ (H, 3) ∷ (C, 3) ∷ (C, 4) ∷ []) ∷ ((C, 3) ∷ (M, 3) ∷ (C, 3) ∷ (C, 4) ∷ [])
    ∷ ((MPst, 3) ∷ (C, 3) ∷ (C, 3) ∷ (C, 4) ∷ []) ∷ ((C, 3) ∷ (C, 3) ∷ (C, 3) ∷ (H, 4) ∷ [])
    ∷ ((C, 3) ∷ (H, 3) ∷ (H, 3) ∷ (C, 4) ∷ []) ∷ [])
    ≡ (2 ∷ 2 ∷ 3 ∷ 3 ∷ []) ∷ (2 ∷ 2 ∷ 3 ∷ 3 ∷ []) ∷ (1 ∷ 1 ∷ 3 ∷ 3 ∷ []) ∷ (0 ∷ 0 ∷ 3 ∷ 3 ∷ []) ∷ (3 ∷ 3 ∷ 3 ∷ 3 ∷ [])
    ∷ []
where_to = refl

-- behind a joiner there that follows a halant, be it the base itself; not one that follows a vowel sign
joiners : map (targets 3) (((C, 3) ∷ (H, 3) ∷ (ZWJ, 3) ∷ (C, 4) ∷ []) ∷ ((C, 3) ∷ (H, 3) ∷ (ZWNJ, 3) ∷ (C, 4) ∷ [])
    ∷ ((C, 3) ∷ (M, 3) ∷ (ZWJ, 3) ∷ (C, 4) ∷ []) ∷ ((C, 3) ∷ (H, 3) ∷ (H, 3) ∷ (ZWJ, 4) ∷ [])
    ∷ ((C, 3) ∷ (C, 3) ∷ (M, 3) ∷ (ZWJ, 4) ∷ []) ∷ [])
    ≡ (3 ∷ 3 ∷ 3 ∷ 3 ∷ []) ∷ (3 ∷ 3 ∷ 3 ∷ 3 ∷ []) ∷ (2 ∷ 2 ∷ 3 ∷ 3 ∷ []) ∷ (4 ∷ 4 ∷ 4 ∷ 4 ∷ []) ∷ (3 ∷ 3 ∷ 3 ∷ 3 ∷ [])
    ∷ []
joiners = refl

at_start : targets 0 ((ZWJ, 4) ∷ (Ra, 11) ∷ []) ∷ targets 1 ((ZWJ, 3) ∷ (C, 4) ∷ []) ∷ [] ≡ (0 ∷ 0 ∷ 0 ∷ 0 ∷ [])
    ∷ (0 ∷ 0 ∷ 1 ∷ 1 ∷ []) ∷ []
at_start = refl

ligatures : pref_target (script "Deva") 3 (marks_at 1 0x20 (of ((M, 3) ∷ (H, 3) ∷ (C, 3) ∷ (C, 4) ∷ [])))
    ∷ pref_target (script "Deva") 3 (marks_at 1 0x20 (of ((C, 3) ∷ (H, 3) ∷ (ZWJ, 3) ∷ (C, 4) ∷ [])))
    ∷ pref_target (script "Deva") 3 (marks_at 2 0x20 (of ((C, 3) ∷ (H, 3) ∷ (ZWJ, 3) ∷ (C, 4) ∷ []))) ∷ []
    ≡ 1 ∷ 0 ∷ 2 ∷ []
ligatures = refl

-- order and clusters
abbrev moved : String → ℕ → Glyphs → List (List ℕ)
moved tag base gs = numbers_of (with_pref 16 (script tag) base gs)
    ∷ clusters (after_steps MonotoneGraphemes (pref_steps 16 (script tag) base gs) gs) ∷ []

abbrev behind_base : Glyphs
behind_base = of ((C, 3) ∷ (H, 3) ∷ (C, 3) ∷ (C, 4) ∷ (C, 8) ∷ (Ra, 11) ∷ (M, 12) ∷ [])

moves : moved "Deva" 3 (formed_at 5 behind_base) ∷ moved "Mlym" 3 (formed_at 5 behind_base)
    ∷ moved "Deva" 3 (unformed_at 5 behind_base) ∷ moved "Deva" 3 behind_base ∷ []
    ≡ ((0 ∷ 1 ∷ 5 ∷ 2 ∷ 3 ∷ 4 ∷ 6 ∷ []) ∷ (0 ∷ 1 ∷ 2 ∷ 2 ∷ 2 ∷ 2 ∷ 6 ∷ []) ∷ [])
    ∷ ((0 ∷ 1 ∷ 2 ∷ 5 ∷ 3 ∷ 4 ∷ 6 ∷ []) ∷ (0 ∷ 1 ∷ 2 ∷ 3 ∷ 3 ∷ 3 ∷ 6 ∷ []) ∷ [])
    ∷ ((0 ∷ 1 ∷ 2 ∷ 3 ∷ 4 ∷ 5 ∷ 6 ∷ []) ∷ (0 ∷ 1 ∷ 2 ∷ 3 ∷ 4 ∷ 5 ∷ 6 ∷ []) ∷ [])
    ∷ ((0 ∷ 1 ∷ 2 ∷ 3 ∷ 4 ∷ 5 ∷ 6 ∷ []) ∷ (0 ∷ 1 ∷ 2 ∷ 3 ∷ 4 ∷ 5 ∷ 6 ∷ []) ∷ []) ∷ []
moves = refl

-- already there: nothing moves
in_place : moved "Deva" 0 (formed_at 1 (of ((C, 4) ∷ (Ra, 11) ∷ [])))
    ∷ moved "Deva" 1 (formed_at 2 (of ((H, 3) ∷ (ZWJ, 4) ∷ (Ra, 11) ∷ []))) ∷ []
    ≡ ((1 ∷ 0 ∷ []) ∷ (0 ∷ 0 ∷ []) ∷ []) ∷ ((0 ∷ 1 ∷ 2 ∷ []) ∷ (0 ∷ 1 ∷ 2 ∷ []) ∷ []) ∷ []
in_place = refl
