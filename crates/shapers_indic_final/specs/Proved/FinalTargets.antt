-- The places that a reph and a formed pref glyph go to lie in the syllable.
use Rattle.std.proofs.Common.{ℕ, suc, ◌+◌, ◌-◌, ◌<◌, ◌≤◌, ◌≡◌, Bool, true, false, cond, if◌then◌else◌, List, [], ◌∷◌, length, drop, length-drop, Option, None, Some, refl, sym, ◌∙◌, ap, subst, arith, inl, inr}
use Rattle.std.specs.Prelude.{find, nat_lt, not, unwrap_or, ◌&&◌}
use Rattle.std.specs.List.{prefix_len}
use Rattle.std.specs.Option.{option_map_or}
use Rattle.std.proofs.lemmas.Bool.{and_parts, cases_Bool, cases_lt, true≢false}
use Rattle.std.proofs.lemmas.Bool.Decides.{nat_tests}
use Rattle.std.proofs.lemmas.Option.{slice_get_past}
use Rattle.shapers_buffer.specs.Glyphs.{Glyph, Glyphs}
use Rattle.shapers_buffer.specs.declared.buffer.tag.Script.{Script}
use Rattle.shapers_base.specs.declared.plan.indic.RephPosition.{RephPosition}
use Rattle.shapers_base.specs.declared.plan.indic.RephPosition.TheVariants.{AfterMain, BeforeSub, AfterSub, BeforePost, AfterPost}
use Rattle.shapers_base.specs.declared.plan.ot_position_t.TheConstants.{POS_SMVD}
use Rattle.shapers_indic.specs.Glyphs.{greatest_place, has_position, is_joiner, passes, places}
use Rattle.shapers_indic_final.specs.FinalBase.{pref_place}
use Rattle.shapers_indic_final.specs.FinalGlyphs.{is_formed, is_indic_halant, is_matra_or_halant}
use Rattle.shapers_base.specs.Masks.{has_bits}
use Rattle.shapers_indic_final.specs.FinalPref.{formed_pref, if_formed, is_joiner_behind_halant, place_before_base, pref_target}
use Rattle.shapers_indic_final.specs.FinalReph.{at_end, behind_base, end_of_rephs, halant_after_start, is_with_main, is_with_sub, last_but_signs, matras_between, begins_with_reph, reph_target, with_joiner}
use Rattle.shapers_indic_final.specs.FinalRules.{has_no_half_forms}
use Rattle.shapers_indic.proofs.PlaceSearch.{PlaceWithin, least_within, greatest_within}

pub find_passes : (test : ℕ → Bool) (xs : List ℕ) (x : ℕ) → find test xs ≡ Some x → test x ≡ true
find_passes test [] x found = absurd (cc found)
find_passes test (y ∷ ys) x found = elim (cases_Bool (test y)) [
  | inl holds ↦ let is : y ≡ x =
      ap (λ o. unwrap_or o y) (sym (ap (λ b. cond b (Some y) (find test ys)) holds) ∙ found) in subst (λ z. test z
      ≡ true) is holds
  | inr fails ↦ find_passes test ys x (sym (ap (λ b. cond b (Some y) (find test ys)) fails) ∙ found)
]

-- a glyph that passes is there
pub passes_within : (test : Glyph → Bool) (gs : Glyphs) (i : ℕ) → passes test gs i ≡ true
    → i < length gs
passes_within test gs i h = elim (cases_lt i (length gs)) [
  | inl l ↦ l
  | inr past ↦ absurd (true≢false (sym h ∙ ap (λ o. option_map_or test o false) (slice_get_past gs i past)))
]

-- the reph's place
joiner_within : (base : ℕ) (gs : Glyphs) (h : ℕ) → h < length gs → with_joiner base gs h < length gs
joiner_within base gs h l = elim (cases_Bool (nat_lt (h + 1) base && passes is_joiner gs (h + 1))) [
  | inl on ↦ rw on
      (passes_within is_joiner gs (h + 1) (and_parts (nat_lt (h + 1) base) (passes is_joiner gs (h + 1)) on).1)
  | inr off ↦ rw off l
]

pub steps_within : (test : Glyph → Bool) (gs : Glyphs) → prefix_len test gs ≤ length gs
steps_within test [] = omega arith
steps_within test (g ∷ gs) = elim (test g) as (λ b. cond b (1 + prefix_len test gs) 0 ≤ suc (length gs)) [
  | true ↦ (let rest = steps_within test gs in omega arith)
  | false ↦ omega arith
]

run_end_within : (test : Glyph → Bool) (base : ℕ) (gs : Glyphs) → base < length gs
    → end_of_rephs test base gs < length gs
run_end_within test base gs l = let rest =
    steps_within test (drop (base + 1) gs) in omega (arith, length-drop (base + 1) gs)

last_within : (gs : Glyphs) (o : Option ℕ) → 0 < length gs
    → ((j : ℕ) → o ≡ Some j → PlaceWithin 0 (length gs) j) → unwrap_or o 0 < length gs
last_within gs None l within = l
last_within gs (Some j) l within = (within j refl).high

end_within : (base : ℕ) (gs : Glyphs) → 0 < length gs → at_end base gs < length gs
end_within base gs l =
    let test : ℕ → Bool = λ i. not (passes (has_position POS_SMVD) gs i) in
    let last = last_but_signs gs in
    let high : last < length gs =
    last_within gs (greatest_place test 0 (length gs)) l
    (λ j found. greatest_within test 0 (length gs) j found) in
    elim (passes is_indic_halant gs last) as (λ b. (if b then last - matras_between base last gs else last)
    < length gs) [
      | true ↦ omega arith
      | false ↦ high
    ]

run_or_end : (test : Glyph → Bool) (base : ℕ) (gs : Glyphs) → 0 < length gs
    → (if nat_lt base (length gs) then end_of_rephs test base gs else at_end base gs) < length gs
run_or_end test base gs l = elim (cases_Bool (nat_lt base (length gs))) [
  | inl on ↦ rw on (run_end_within test base gs (grind (arith, nat_tests)))
  | inr off ↦ rw off (end_within base gs l)
]

behind_within : (position : RephPosition) (base : ℕ) (gs : Glyphs) → 0 < length gs
    → behind_base position base gs < length gs
behind_within AfterMain base gs l = run_or_end is_with_main base gs l
behind_within AfterSub base gs l = run_or_end is_with_sub base gs l
behind_within BeforeSub base gs l = end_within base gs l
behind_within BeforePost base gs l = end_within base gs l
behind_within AfterPost base gs l = end_within base gs l

target_from : (position : RephPosition) (base : ℕ) (gs : Glyphs) (o : Option ℕ) → 0 < length gs
    → ((h : ℕ) → o ≡ Some h → h < length gs) → option_map_or (with_joiner base gs) o (behind_base position base gs)
    < length gs
target_from position base gs None l within = behind_within position base gs l
target_from position base gs (Some h) l within = joiner_within base gs h (within h refl)

pub reph_target_within : (position : RephPosition) (base : ℕ) (gs : Glyphs) → 0 < length gs
    → reph_target position base gs < length gs
reph_target_within position base gs l =
    target_from position base gs (halant_after_start base gs) l
    (λ h found. passes_within is_indic_halant gs h
    (find_passes (passes is_indic_halant gs) (places 1 base) h found))

pub begins_some : (gs : Glyphs) → begins_with_reph gs ≡ true → 0 < length gs
begins_some [] h = absurd (true≢false (sym h))
begins_some (g ∷ gs) h = omega arith

-- the formed pref glyph stands behind the place that it goes to
formed_within : (gs : Glyphs) (s e : ℕ) (o : Option ℕ) → ((j : ℕ) → o ≡ Some j → PlaceWithin s e j)
    → (i : ℕ) → if_formed gs o ≡ Some i → PlaceWithin s e i
formed_within gs s e None within i found = absurd (cc found)
formed_within gs s e (Some j) within i found =
    elim (passes is_formed gs j) as (λ b. (if b then Some j else None) ≡ Some i → PlaceWithin s e i) [
      | true ↦ λ h. subst (PlaceWithin s e) (ap (λ o. unwrap_or o j) h) (within j refl)
      | false ↦ λ h. absurd (cc h)
    ] found

pub formed_pref_within : (pref base : ℕ) (gs : Glyphs) (i : ℕ) → formed_pref pref base gs ≡ Some i
    → PlaceWithin (base + 1) (length gs) i
formed_pref_within pref base gs i found =
    formed_within gs (base + 1) (length gs) (pref_place pref base gs)
    (λ j at. least_within (passes (has_bits pref) gs) (base + 1) (length gs) j at) i found

nearest_within : (base : ℕ) (o : Option ℕ) → ((j : ℕ) → o ≡ Some j → PlaceWithin 0 base j)
    → option_map_or suc o 0 ≤ base
nearest_within base None within = omega arith
nearest_within base (Some j) within = let k = within j refl in omega (arith, k.high)

before_base_within : (script : Option Script) (base : ℕ) (gs : Glyphs) → place_before_base script base gs
    ≤ base
before_base_within script base gs =
    let test = passes is_matra_or_halant gs in
    elim (has_no_half_forms script) as (λ b. (if b then base else option_map_or suc (greatest_place test 0 base) 0)
    ≤ base) [
      | true ↦ omega arith
      | false ↦ nearest_within base (greatest_place test 0 base) (λ j found. greatest_within test 0 base j found)
    ]

pub pref_target_within : (script : Option Script) (base : ℕ) (gs : Glyphs)
    → pref_target script base gs ≤ base + 1
pref_target_within script base gs =
    let at = place_before_base script base gs in
    let low = before_base_within script base gs in
    elim (is_joiner_behind_halant gs at) as (λ b. (if b then at + 1 else at) ≤ base + 1) [
      | true ↦ omega arith
      | false ↦ omega arith
    ]
