-- The laws of the final reordering of a syllable: its steps fit it, take each place once, and lead to the order.
use Rattle.std.proofs.Common.{map, ℕ, suc, ◌+◌, ◌-◌, ◌<◌, ◌≤◌, ◌≡◌, ◌==◌, not, Bool, true, false, cond, if◌then◌else◌, [], ◌∷◌, ◌++◌, length, take, drop, take-suc, take-append-drop, append_assoc, append-nil, length-drop, get_or, Option, None, Some, refl, sym, ◌∙◌, ap, subst, arith, inl, inr}
use Rattle.std.specs.Prelude.{filter, nat_lt, unwrap_or}
use Rattle.std.specs.List.{AllByRecursion, range_with_len}
use Rattle.std.specs.List.Sorted.{IsPermutation}
use Rattle.std.proofs.lemmas.Bool.{and_parts, cases_Bool}
use Rattle.std.proofs.lemmas.Bool.Decides.{nat_tests}
use Rattle.std.proofs.lemmas.List.Elements.{filter-append}
use Rattle.std.proofs.lemmas.List.Sorted.{IsPermutation-refl}
use Rattle.shapers_buffer.specs.Glyphs.{Glyphs}
use Rattle.shapers_buffer.specs.declared.buffer.tag.Script.{Script}
use Rattle.shapers_buffer.specs.Lists.{first_last}
use Rattle.shapers_buffer.specs.Clusters.{with_stretch}
use Rattle.shapers_buffer.specs.Glyph.{default_glyph}
use Rattle.shapers_buffer.specs.Places.{pick}
use Rattle.shapers_base.specs.declared.plan.indic.RephPosition.{RephPosition}
use Rattle.shapers_clusters.proofs.Picks.{pick-all}
use Rattle.shapers_clusters.proofs.ViewedSteps.{length-same}
use Rattle.shapers_clusters.specs.Steps.{FitSteps, Permutes}
use Rattle.shapers_syllabic.specs.Reordering.{carried}
use Rattle.shapers_indic.specs.Glyphs.{greatest_place, least_place, passes, places}
use Rattle.shapers_indic_final.specs.FinalBase.{Based, with_viramas}
use Rattle.shapers_indic_final.specs.FinalGlyphs.{last_goes_first}
use Rattle.shapers_indic_final.specs.FinalLaws.{FinalReorderLaws}
use Rattle.shapers_indic_final.specs.FinalMatras.{end_of_base, ends_search, halant_or_start, has_room, is_free_halant, is_left, matra_steps, matra_target, takes_matras, merging_step, nearest_halant, partitioned, partition_steps, place_before, with_matras}
use Rattle.shapers_indic_final.specs.FinalPref.{formed_pref, moved_before, pref_move, pref_step, pref_steps, pref_target, with_pref}
use Rattle.shapers_indic_final.specs.FinalReordering.{after_matras, after_pref, after_reph, based, final_order, final_steps, steps_of_pref}
use Rattle.shapers_indic_final.specs.FinalReph.{begins_with_reph, final_reph_step, reph_steps, reph_target, with_reph}
use Rattle.shapers_indic_final.specs.FinalRules.{has_no_half_forms}
use Rattle.shapers_indic_final.specs.declared.ot_shaper_indic_final.rules.Rules.{Rules}
use Rattle.shapers_indic_final.specs.Proved.FinalHidden.{base_within, hidden-based, hidden-viramas}
use Rattle.shapers_indic_final.specs.Proved.FinalLawsAt.{LawsAt, agrees_at, same_at, step_laws_at, stretch_at, then_at}
use Rattle.shapers_indic_final.specs.Proved.FinalMoves.{permutes_last_first, picks_first_last, picks_last_first}
use Rattle.shapers_indic_final.specs.Proved.LeftMatraMoves.{all_at, is_other}
use Rattle.shapers_indic_final.specs.Proved.FinalTargets.{formed_pref_within, begins_some, pref_target_within, reph_target_within}
use Rattle.shapers_indic.proofs.PlaceSearch.{passes_there, PlaceWithin, greatest_within}
use Rattle.shapers_clusters.proofs.Permuted.{permuted-first_last}

-- the left matras go to a place
parting_at : (gs : Glyphs) (p e : ℕ) → p < length gs → passes is_left gs p ≡ false → e ≤ length gs
    → LawsAt gs (with_stretch 0 (p + 1) (partitioned is_left) gs) (partition_steps p e gs)
parting_at gs p e l other ends =
    let d = default_glyph in
    let x = get_or gs p d in
    let a = take p gs in
    let c = drop (p + 1) gs in
    let steps = partition_steps p e gs in
    let is_not : is_left x ≡ false = sym (passes_there is_left gs p d l) ∙ other in
    let one : suc p ≡ p + 1 = omega arith in
    let many : p + 1 - 0 ≡ p + 1 = omega arith in
    let front : take (p + 1) gs ≡ a ++ x ∷ [] = ap (λ k. take k gs) (sym one) ∙ take-suc gs p d l in
    let start : a ++ x ∷ c ≡ gs = sym (append_assoc a (x ∷ []) c) ∙ ap (λ xs. xs ++ c) (sym front)
    ∙ take-append-drop (p + 1) gs in
    let others : filter is_other (a ++ x ∷ []) ≡ filter is_other a ++ x ∷ [] = filter-append is_other a (x ∷ [])
    ∙ ap (λ t. filter is_other a ++ cond (not t) (x ∷ []) []) is_not in
    let left : filter is_left (a ++ x ∷ []) ≡ filter is_left a = filter-append is_left a (x ∷ [])
    ∙ ap (λ t. filter is_left a ++ cond t (x ∷ []) []) is_not ∙ append-nil (filter is_left a) in
    let end : with_stretch 0 (p + 1) (partitioned is_left) gs ≡ filter is_other a ++ (x ∷ (filter is_left a ++ c)) =
    ap (λ k. partitioned is_left (take k gs) ++ c) many
    ∙ ap (λ xs. partitioned is_left xs ++ c) front
    ∙ ap (λ xs. (xs ++ filter is_left (a ++ x ∷ [])) ++ c) others
    ∙ ap (λ xs. ((filter is_other a ++ x ∷ []) ++ xs) ++ c) left
    ∙ append_assoc (filter is_other a ++ x ∷ []) (filter is_left a) c
    ∙ append_assoc (filter is_other a) (x ∷ []) (filter is_left a ++ c) in
    let parts : length gs ≡ p + (1 + length c) = omega (arith, length-drop (p + 1) gs) in
    subst (λ ms. LawsAt gs ms steps) (sym end)
    (subst (λ xs. LawsAt xs (filter is_other a ++ (x ∷ (filter is_left a ++ c))) steps) start
    (all_at gs (length gs) e p p 0 (x ∷ []) c (omega arith) ends parts (omega arith)))

-- or stay
pub merging_at : (gs : Glyphs) (e : ℕ) (o : Option ℕ) → e ≤ length gs
    → LawsAt gs gs (merging_step (length gs) e o)
merging_at gs e None l = same_at gs gs refl
merging_at gs e (Some i) l =
    let n = length gs in
    let all : n - 0 ≡ n = omega arith in
    let perm : IsPermutation (range_with_len 0 n) (places 0 n) =
    subst (λ k. IsPermutation (range_with_len 0 n) (range_with_len 0 k)) (sym all)
    (IsPermutation-refl (range_with_len 0 n)) in
    step_laws_at gs gs (record { merged_first = (i, e) ∷ []; places = places 0 n; merged_then = [] }) perm (l, tt) tt
    (sym (ap (λ k. pick (range_with_len 0 k) gs) all ∙ pick-all n gs refl))

halant_within : (gs : Glyphs) (i : ℕ) → halant_or_start gs i ≤ i
halant_within gs i = elim (passes is_free_halant gs i) as (λ b. (if b then i else 0) ≤ i)
    [ true ↦ omega arith | false ↦ omega arith ]

or_start : (p : ℕ) (o : Option ℕ) → ((j : ℕ) → o ≡ Some j → PlaceWithin 0 (p + 1) j) → unwrap_or o 0 ≤ p
or_start p None within = omega arith
or_start p (Some j) within = let k = within j refl in omega (arith, k.high)

nearest_within : (p : ℕ) (gs : Glyphs) → nearest_halant p gs ≤ p
nearest_within p gs =
    let found = greatest_place (ends_search gs) 0 (p + 1) in
    let one = halant_within gs (unwrap_or found 0) in
    let two = or_start p found (λ j at. greatest_within (ends_search gs) 0 (p + 1) j at) in
    omega (arith, one, two)

before_within : (base : ℕ) (gs : Glyphs) → place_before base gs ≤ base - 1
before_within base gs = elim (base == length gs) as (λ b. (if b then base - 2 else base - 1) ≤ base - 1)
    [ true ↦ omega arith | false ↦ omega arith ]

pub target_within : (script : Option Script) (base : ℕ) (gs : Glyphs)
    → matra_target script base gs ≤ base - 1
target_within script base gs =
    let p = place_before base gs in
    let low = before_within base gs in
    let near = nearest_within p gs in
    elim (has_no_half_forms script) as (λ b. (if b then p else nearest_halant p gs) ≤ base - 1)
    [ true ↦ low | false ↦ omega arith ]

pub negated : (b : Bool) → not b ≡ true → b ≡ false
negated true h = sym h
negated false h = refl

pub matras_at : (script : Option Script) (base : ℕ) (gs : Glyphs) → base ≤ length gs
    → LawsAt gs (with_matras script base gs) (matra_steps script base gs)
matras_at script base gs l =
    let p = matra_target script base gs in
    let e = end_of_base base gs in
    let ends : e ≤ length gs = omega arith in
    let low = target_within script base gs in
    elim (cases_Bool (has_room base gs)) [
      | inl room ↦ rw room (elim (cases_Bool (takes_matras p gs)) [
        | inl go ↦ rw go (
            let some = (and_parts (nat_lt 1 (length gs)) (nat_lt 0 base) room).1 in
            let other = negated (passes is_left gs p) (and_parts (nat_lt 0 p) (not (passes is_left gs p)) go).1 in
            let within : p < length gs = (let some_base : 0 < base = grind (arith, nat_tests) in omega arith) in
            parting_at gs p e within other ends)
        | inr stay ↦ rw stay (merging_at gs e (least_place (passes is_left gs) 0 base) ends)
      ])
      | inr none ↦ rw none (same_at gs gs refl)
    ]

-- the reph
pub reph_at : (position : RephPosition) (base : ℕ) (gs : Glyphs)
    → LawsAt gs (with_reph position base gs) (reph_steps position base gs)
reph_at position base gs =
    let j = reph_target position base gs in
    elim (cases_Bool (begins_with_reph gs)) [
      | inl on ↦ rw on (
          let high : j < length gs = reph_target_within position base gs (begins_some gs on) in
          let ends : j + 1 ≤ length gs = omega arith in
          stretch_at first_last first_last picks_first_last permuted-first_last 0 (j + 1)
          (final_reph_step (length gs) j) gs (omega arith) ends refl (ends, tt) tt)
      | inr off ↦ rw off (same_at gs gs refl)
    ]

-- the pref glyph
moved_at : (gs : Glyphs) (j s : ℕ) (o : Option ℕ) → j ≤ s
    → ((i : ℕ) → o ≡ Some i → PlaceWithin s (length gs) i) → LawsAt gs (moved_before j o gs) (pref_step (length gs) j o)
moved_at gs j s None l within = same_at gs gs refl
moved_at gs j s (Some i) l within =
    let k = within i refl in
    let low = k.low in
    let high = k.high in
    let ends : i + 1 ≤ length gs = omega arith in
    stretch_at last_goes_first last_goes_first picks_last_first permutes_last_first j (i + 1)
    (pref_move (length gs) j i) gs (omega arith) ends refl (ends, tt) tt

pub pref_at : (pref : ℕ) (script : Option Script) (base : ℕ) (gs : Glyphs)
    → LawsAt gs (with_pref pref script base gs) (pref_steps pref script base gs)
pref_at pref script base gs =
    moved_at gs (pref_target script base gs) (base + 1) (formed_pref pref base gs) (pref_target_within script base gs)
    (formed_pref_within pref base gs)

pub tried_at : (r : Rules) (script : Option Script) (b : Based)
    → LawsAt b.glyphs (after_pref r script b) (steps_of_pref r script b)
tried_at r script b =
    elim b.tries_pref as (λ t. LawsAt b.glyphs (if t then with_pref r.pref script b.base b.glyphs else b.glyphs)
    (if t then pref_steps r.pref script b.base b.glyphs else [])) [
      | true ↦ pref_at r.pref script b.base b.glyphs
      | false ↦ same_at b.glyphs b.glyphs refl
    ]

-- all of them, from the syllable with its base on
pub final_at : (r : Rules) (script : Option Script) (gs : Glyphs)
    → LawsAt (based r script gs).glyphs (final_order r script gs) (final_steps r script gs)
final_at r script gs =
    let b = based r script gs in
    let p = after_matras r script b in
    let q = after_reph r p in
    let end = final_order r script gs in
    let ms = matra_steps script b.base b.glyphs in
    let rs = reph_steps r.reph_pos p.base p.glyphs in
    let ps = steps_of_pref r script q in
    then_at b.glyphs p.glyphs end ms (rs ++ ps)
    (matras_at script b.base b.glyphs (base_within r script (with_viramas r gs)))
    (then_at p.glyphs q.glyphs end rs ps (reph_at r.reph_pos p.base p.glyphs) (tried_at r script q))

hidden : (r : Rules) (script : Option Script) (gs : Glyphs) → map carried (based r script gs).glyphs
    ≡ map carried gs
hidden r script gs = hidden-based r script (with_viramas r gs) ∙ hidden-viramas r gs

pub final_laws : FinalReorderLaws
final_laws r script = record {
  fits = λ gs. (let at = final_at r script gs in subst (λ n. FitSteps n (final_steps r script gs))
      (length-same carried (based r script gs).glyphs gs (hidden r script gs)) at.fits);
  permutes = λ gs. (let at = final_at r script gs in subst (λ n. AllByRecursion (Permutes n) (final_steps r script gs))
      (length-same carried (based r script gs).glyphs gs (hidden r script gs)) at.permutes);
  agrees = λ gs. agrees_at gs (based r script gs).glyphs (final_order r script gs) (final_steps r script gs)
      (hidden r script gs) (final_at r script gs);
}
