-- The steps of Indic's initial reordering keep in each run of a cluster a glyph with its flags.
use Rattle.std.proofs.Common.{ℕ, ◌<◌, ◌≤◌, ◌≡◌, ◌&&◌, if◌then◌else◌, Bool, true, false, List, [], ◌∷◌, length, map, get_or, refl, sym, ap, ◌∙◌, subst, arith, inl, inr}
use Rattle.std.specs.Prelude.{Option, None, Some, codes}
use Rattle.std.specs.List.{AllByRecursion}
use Rattle.std.proofs.lemmas.Bool.{cases_lt}
use Rattle.std.proofs.lemmas.List.{length-map}
use Rattle.std.proofs.lemmas.List.Elements.{AllZip-get_or}
use Rattle.shapers_buffer.specs.Glyphs.{Glyph, Glyphs}
use Rattle.shapers_buffer.specs.declared.buffer.level.BufferClusterLevel.{BufferClusterLevel}
use Rattle.shapers_buffer.specs.declared.buffer.tag.Script.{Script}
use Rattle.shapers_buffer.specs.Clusters.{merge}
use Rattle.shapers_buffer.specs.Glyph.{at_position, clusters, default_glyph, order_view, plain}
use Rattle.shapers_base.specs.Font.{Font}
use Rattle.shapers_base.specs.Map.{Map}
use Rattle.shapers_base.specs.declared.font.GlyphId.{GlyphId}
use Rattle.shapers_base.specs.declared.plan.indic.indic_shape_plan_t.{indic_shape_plan_t}
use Rattle.shapers_base.specs.declared.plan.ot_category_t.TheConstants.{OT_H, OT_Ra, OT_ZWJ}
use Rattle.shapers_base.specs.declared.plan.ot_position_t.TheConstants.{POS_BASE_C}
use Rattle.shapers_clusters.specs.Flags.{FallsTo}
use Rattle.shapers_clusters.specs.Steps.{FitSteps, FitsStep, after_step, after_steps, still_step, swap_step}
use Rattle.shapers_clusters.proofs.ClusterMerges.{clusters-merge}
use Rattle.shapers_clusters.proofs.Falls.{merge-falls}
use Rattle.shapers_clusters.proofs.Merging.{length-merge}
use Rattle.shapers_clusters.proofs.Neighbours.{left_to, right_from}
use Rattle.shapers_clusters.proofs.Proved.{steps_hold}
use Rattle.shapers_clusters.proofs.Spread.{Spread, joined_cases}
use Rattle.shapers_indic.specs.Glyphs.{has_position, is_one_of, number}
use Rattle.shapers_indic.specs.Plan.{is_script, virama_glyph}
use Rattle.shapers_indic_initial.specs.InitialBase.{base_place, joiner_comes_first, begins_with_ra_h_zwj}
use Rattle.shapers_indic_initial.specs.InitialFont.{all_by_virama, by_virama, consonant_position, positions_by_font}
use Rattle.shapers_indic_initial.specs.InitialPause.{steps_by_font}
use Rattle.shapers_indic_initial.specs.InitialReordering.{halant_step, indic_order_step, is_reordered_in_indic, joiner_step, positioned, steps_of_reordered, with_base_positions, with_joiner_first}
use Rattle.shapers_indic_initial.specs.InitialRules.{Rules, initial_rules}
use Rattle.shapers_break_laws.specs.IndicBreaks.{JoinerShares}
use Rattle.shapers_break_laws.proofs.Keepers.{AllAt, HaveKeepers, all_moved, all_picked, cluster_at, keepers_moved, own_keepers, unfallen}

-- a merge of two glyphs of one cluster changes nothing
merged_alike : (cs js : List ℕ) → Spread 1 3 cs js → get_or cs 1 0 ≡ get_or cs 2 0 → (i : ℕ) → get_or js i 0
    ≡ get_or cs i 0
merged_alike cs js f same i =
    let from = f.at_from in
    let to = f.at_to in
    let least : get_or cs 1 0 ≡ f.m = elim (cases_lt f.at 2) [
      | inl a ↦ let e : 1 ≡ f.at = omega arith in ap (λ k. get_or cs k 0) e ∙ f.at_is
      | inr a ↦ let e : 2 ≡ f.at = omega arith in same ∙ ap (λ k. get_or cs k 0) e ∙ f.at_is
    ] in
    elim (cases_lt i f.low) [
      | inl a ↦ f.before i a
      | inr a ↦ elim (cases_lt i f.high) [
        | inl b ↦ elim (cases_lt i 2) [
          | inl c ↦ f.inside i a b ∙ sym least ∙ sym (left_to 1 3 cs js f i a (omega arith))
          | inr c ↦ f.inside i a b ∙ sym least ∙ same ∙ sym (right_from 1 3 cs js f i (omega arith) b)
        ]
        | inr b ↦ f.behind i b
      ]
    ]

all_alike : (P : Glyph → Type 0) (level : BufferClusterLevel) (gs : Glyphs) → 3 ≤ length gs
    → get_or (clusters gs) 1 0 ≡ get_or (clusters gs) 2 0 → AllAt P gs → AllAt P (merge level 1 3 gs)
all_alike P level gs l same all =
    let d = default_glyph in
    let cs = clusters gs in
    let ms = merge level 1 3 gs in
    let n : length cs ≡ length gs = length-map gs (λ g. g.cluster) in
    let many : length ms ≡ length gs = length-merge level 1 3 gs l in
    let R : List ℕ → Type 0 = λ js. (i : ℕ) → get_or js i 0 ≡ get_or cs i 0 in
    let stay : R (clusters ms) = subst R (sym (clusters-merge level 1 3 gs))
    (joined_cases R level 1 3 cs (omega arith) (λ _ i. refl) (λ js m h f. merged_alike cs js f same)) in
    λ i il.
    let kl : i < length gs = omega arith in
    let fallen = AllZip-get_or FallsTo gs ms i d d (merge-falls level 1 3 gs l) kl in
    let own = sym (cluster_at ms i il) ∙ stay i ∙ cluster_at gs i kl in
    subst P (sym (unfallen (get_or gs i d) (get_or ms i d) fallen own)) (all i kl)

-- the test of Kannada's joiner reads categories and marks alone
opens-mapped : (f : Glyph → Glyph) → ((cs : List ℕ) (g : Glyph) → is_one_of cs (f g)
    ≡ is_one_of cs g) → (gs : Glyphs) → begins_with_ra_h_zwj (map f gs) ≡ begins_with_ra_h_zwj gs
opens-mapped f keeps [] = refl
opens-mapped f keeps (a ∷ []) = refl
opens-mapped f keeps (a ∷ (b ∷ [])) = refl
opens-mapped f keeps (a ∷ (b ∷ (c ∷ gs))) =
    ap (λ x. x && is_one_of (OT_H ∷ []) (f b) && is_one_of (OT_ZWJ ∷ []) (f c)) (keeps (OT_Ra ∷ []) a)
    ∙ ap (λ y. is_one_of (OT_Ra ∷ []) a && y && is_one_of (OT_ZWJ ∷ []) (f c)) (keeps (OT_H ∷ []) b)
    ∙ ap (λ z. is_one_of (OT_Ra ∷ []) a && is_one_of (OT_H ∷ []) b && z) (keeps (OT_ZWJ ∷ []) c)

by_virama-kept : (font : Font) (m : Map) (p : indic_shape_plan_t) (v : GlyphId) (cs : List ℕ) (g : Glyph)
    → is_one_of cs (by_virama font m p v g) ≡ is_one_of cs g
by_virama-kept font m p v cs g = elim (has_position POS_BASE_C g) as
    (λ b. is_one_of cs (if b then at_position (consonant_position font m p v (number g)) g else g) ≡ is_one_of cs g)
    [ true ↦ refl | false ↦ refl ]

opens_by_virama : (font : Font) (m : Map) (p : indic_shape_plan_t) (v : Option GlyphId) (gs : Glyphs)
    → begins_with_ra_h_zwj (all_by_virama font m p v gs) ≡ begins_with_ra_h_zwj gs
opens_by_virama font m p None gs = refl
opens_by_virama font m p (Some v) gs = opens-mapped (by_virama font m p v) (by_virama-kept font m p v) gs

joiner_seen : (font : Font) (m : Map) (p : indic_shape_plan_t) (script : Option Script) (gs : Glyphs)
    → joiner_comes_first script (positions_by_font font m p (order_view gs)) ≡ joiner_comes_first script gs
joiner_seen font m p script gs = ap (λ b. is_script script (Some (record { 0 = codes "Knda" })) && b)
    (opens_by_virama font m p (virama_glyph font p) (order_view gs) ∙ opens-mapped plain (λ cs g. refl) gs)

-- the step of the joiner
joiner_keeps : (P : Glyph → Type 0) (level : BufferClusterLevel) (n : ℕ) (first : Bool)
    (gs : Glyphs) → FitsStep (length gs) (if first then swap_step n 1 else still_step n)
    → (first ≡ true → get_or (clusters gs) 1 0 ≡ get_or (clusters gs) 2 0) → AllAt P gs
    → AllAt P (after_step level (if first then swap_step n 1 else still_step n) gs)
joiner_keeps P level n false gs fits shares all = all_moved P level (still_step n) gs fits refl refl all
joiner_keeps P level n true gs fits shares all =
    let ms = merge level 1 3 gs in
    let within = fits.first_within in
    let many : length ms ≡ length gs = length-merge level 1 3 gs within.0 in
    all_picked P (swap_step n 1).places ms
    (subst (λ k. AllByRecursion (λ p. p < k) (swap_step n 1).places) (sym many) fits.within)
    (all_alike P level gs within.0 (shares refl) all)

-- all steps
three_steps : (P : Glyph → Type 0) (level : BufferClusterLevel) (r : Rules) (script : Option Script)
    (xs gs : Glyphs) → FitSteps (length gs) (steps_of_reordered r script xs)
    → (joiner_comes_first script xs ≡ true → get_or (clusters gs) 1 0 ≡ get_or (clusters gs) 2 0) → AllAt P gs
    → HaveKeepers P (after_steps level (steps_of_reordered r script xs) gs)
three_steps P level r script xs gs fits shares all =
    let a = joiner_step script xs in
    let opened = with_joiner_first script xs in
    let b = halant_step r script (base_place r opened) (with_base_positions r opened) in
    let c = indic_order_step r (positioned r script xs) in
    let gs1 = after_step level a gs in
    let gs2 = after_step level b gs1 in
    let n = length gs in
    let one : length gs1 ≡ n = (steps_hold level (a ∷ []) gs (fits.0, tt)).same_length in
    let two : length gs2 ≡ n = (steps_hold level (a ∷ (b ∷ [])) gs (fits.0, (fits.1.0, tt))).same_length in
    let first : AllAt P gs1 = joiner_keeps P level (length xs) (joiner_comes_first script xs) gs fits.0 shares all in
    let second : AllAt P gs2 = all_moved P level b gs1 (subst (λ k. FitsStep k b) (sym one) fits.1.0) refl refl first in
    keepers_moved P level c gs2 (subst (λ k. FitsStep k c) (sym two) fits.1.1.0) refl second

pub initial_keeps : (font : Font) (m : Map) (p : indic_shape_plan_t) (script : Option Script)
    (level : BufferClusterLevel) (P : Glyph → Type 0) (gs : Glyphs) → JoinerShares script gs
    → FitSteps (length gs) (steps_by_font font m p script (order_view gs)) → AllAt P gs
    → HaveKeepers P (after_steps level (steps_by_font font m p script (order_view gs)) gs)
initial_keeps font m p script level P gs shares fits all =
    let r = initial_rules font m p in
    let xs = positions_by_font font m p (order_view gs) in
    let seen : joiner_comes_first script xs ≡ joiner_comes_first script gs = joiner_seen font m p script gs in
    elim (is_reordered_in_indic xs) as (λ b. FitSteps (length gs) (if b then steps_of_reordered r script xs else [])
    → HaveKeepers P (after_steps level (if b then steps_of_reordered r script xs else []) gs)) [
      | true ↦ λ f. three_steps P level r script xs gs f (λ e. shares (sym seen ∙ e)) all
      | false ↦ λ f. own_keepers P gs all
    ] fits
