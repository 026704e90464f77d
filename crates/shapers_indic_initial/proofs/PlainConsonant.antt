-- A syllable of one plain consonant: nothing of it changes.
use Rattle.std.proofs.Common.{ℕ, ◌+◌, ◌-◌, ◌<◌, ◌≤◌, ◌≡◌, not, Bool, true, false, inl, inr, List, [], ◌∷◌, ◌++◌, map, length, refl, sym, ◌∙◌, ap, arith}
use Rattle.std.specs.Prelude.{Option}
use Rattle.std.specs.List.{range_with_len}
use Rattle.std.proofs.lemmas.Bool.{and_parts, cases_Bool, eqb-true}
use Rattle.std.proofs.lemmas.List.{length-map}
use Rattle.shapers_buffer.specs.Glyphs.{Glyph, Glyphs}
use Rattle.shapers_buffer.specs.declared.buffer.level.BufferClusterLevel.{BufferClusterLevel}
use Rattle.shapers_buffer.specs.declared.buffer.tag.Script.{Script}
use Rattle.shapers_buffer.specs.Buffer.{Buffer}
use Rattle.shapers_buffer.specs.Clusters.{merge, stretch_of}
use Rattle.shapers_buffer.specs.Glyph.{order_view, plain}
use Rattle.shapers_buffer.specs.Places.{pick}
use Rattle.shapers_buffer.proofs.ClusterLemmas.{length-stretch, map-stretch}
use Rattle.shapers_clusters.specs.Steps.{Step, after_steps, widened}
use Rattle.shapers_clusters.proofs.Picks.{pick-all}
use Rattle.shapers_clusters.proofs.Widened.{range-three}
use Rattle.shapers_syllabic.specs.Reordering.{SyllableReordered, carried}
use Rattle.shapers_syllabic.proofs.ReorderingLemmas.{stretch_stays}
use Rattle.shapers_buffer.specs.Properties.{is_ligated}
use Rattle.shapers_base.specs.declared.plan.indic.RephMode.{RephMode}
use Rattle.shapers_base.specs.declared.plan.indic.RephMode.TheVariants.{Implicit, Explicit, LogRepha}
use Rattle.shapers_indic.specs.Glyphs.{is_plain_consonant}
use Rattle.shapers_indic_initial.specs.InitialBase.{base_place, joiner_comes_first, begins_with_repha, indic_reph_len}
use Rattle.shapers_indic_initial.specs.InitialMasks.{with_eyelash_mask, with_initial_masks, with_pref_mask}
use Rattle.shapers_indic_initial.specs.InitialOrder.{ordered_stretches}
use Rattle.shapers_indic_initial.specs.InitialPositions.{halant_places}
use Rattle.shapers_indic_initial.specs.InitialReordering.{halant_step, in_indic_order, initial_order, initial_steps, is_reordered_in_indic, joiner_step, masked_in_order, indic_order_step, positioned, steps_of_reordered, with_base_positions, with_joiner_first, with_marks_and_owners}
use Rattle.shapers_indic_initial.specs.InitialRules.{Rules}

pub not_true : (b : Bool) → not b ≡ true → b ≡ false
not_true true h = sym h
not_true false h = refl

-- a glyph as a consonant at the base
abbrev pub plain_consonant : Glyph → Glyph
plain_consonant g = record g { category = 1; auxiliary = 4 }

no_joiner : (script : Option Script) (g : Glyph) → joiner_comes_first script (plain_consonant g ∷ []) ≡ false
no_joiner = search arith

no_repha : (mode : RephMode) (g : Glyph) → begins_with_repha mode (plain_consonant g ∷ []) ≡ false
no_repha Implicit g = refl
no_repha Explicit g = refl
no_repha LogRepha g = refl

no_reph : (r : Rules) (g : Glyph) → indic_reph_len r (plain_consonant g ∷ []) ≡ 0
no_reph = search arith

is_the_base : (r : Rules) (g : Glyph) → is_ligated g.glyph_props ≡ false → base_place r (plain_consonant g ∷ []) ≡ 0
is_the_base = search arith

still_halants : (r : Rules) (script : Option Script) (g : Glyph)
    → halant_places r script 0 (plain_consonant g ∷ []) ≡ 0 ∷ []
still_halants = search arith

consonant_joined : (script : Option Script) (g : Glyph) → with_joiner_first script (plain_consonant g ∷ [])
    ≡ plain_consonant g ∷ []
consonant_joined = search arith

consonant_based : (r : Rules) (g : Glyph) → is_ligated g.glyph_props ≡ false
    → with_base_positions r (plain_consonant g ∷ []) ≡ plain_consonant g ∷ []
consonant_based r g m = search arith

marks_stay : (g : Glyph) → with_marks_and_owners 0 (plain_consonant g ∷ []) ≡ plain_consonant g ∷ []
marks_stay g = refl

pub plain_positioned : (r : Rules) (script : Option Script) (g : Glyph) → is_ligated g.glyph_props ≡ false
    → positioned r script (plain_consonant g ∷ []) ≡ plain_consonant g ∷ []
plain_positioned r script g m = search (arith, consonant_joined script g)

no_eyelash : (r : Rules) (script : Option Script) (g : Glyph) → with_eyelash_mask r script 0 (g ∷ []) ≡ g ∷ []
no_eyelash = search arith

no_pair : (r : Rules) (g : Glyph) → with_pref_mask r 0 (g ∷ []) ≡ g ∷ []
no_pair = search arith

masks_stay : (r : Rules) (script : Option Script) (g : Glyph)
    → with_initial_masks r script 0 (plain_consonant g ∷ []) ≡ plain_consonant g ∷ []
masks_stay = search arith

-- steps of one place, which may merge it alone
abbrev one_place : List (ℕ × ℕ) → Step
one_place sts = record { merged_first = []; places = 0 ∷ []; merged_then = sts }

abbrev plain_steps : List Step
plain_steps = one_place [] ∷ (one_place [] ∷ (one_place ((0, 1) ∷ []) ∷ []))

merges_alone : (r : Rules) → ordered_stretches r (0 ∷ []) 0 ≡ (0, 1) ∷ []
merges_alone = search arith

first_step : (script : Option Script) (g : Glyph) → joiner_step script (plain_consonant g ∷ []) ≡ one_place []
first_step = search arith

second_step : (r : Rules) (script : Option Script) (g : Glyph) → is_ligated g.glyph_props ≡ false
    → halant_step r script (base_place r (with_joiner_first script (plain_consonant g ∷ [])))
    (with_base_positions r (with_joiner_first script (plain_consonant g ∷ []))) ≡ one_place []
second_step = search (arith, consonant_joined)

third_step : (r : Rules) (script : Option Script) (g : Glyph) → is_ligated g.glyph_props ≡ false
    → indic_order_step r (positioned r script (plain_consonant g ∷ [])) ≡ one_place ((0, 1) ∷ [])
third_step r script g m = ap (indic_order_step r) (plain_positioned r script g m) ∙ ap one_place (merges_alone r)

plain_steps_are : (r : Rules) (script : Option Script) (g : Glyph) → is_ligated g.glyph_props ≡ false
    → steps_of_reordered r script (plain_consonant g ∷ []) ≡ plain_steps
plain_steps_are r script g m = cc (first_step script g, second_step r script g m, third_step r script g m)

-- such steps change nothing
merge_one : (level : BufferClusterLevel) (s e : ℕ) (gs : Glyphs) → e - s < 2 → merge level s e gs ≡ gs
merge_one = search arith

picks_all : (s n : ℕ) (gs : Glyphs) → s + 1 ≤ n → length gs ≡ n
    → pick (range_with_len 0 s ++ (map (λ p. s + p) (0 ∷ []) ++ range_with_len (s + 1) (n - (s + 1)))) gs ≡ gs
picks_all s n gs l long = search (arith, range-three s (s + 1) n (omega arith) l, pick-all n gs long)

still_run : (level : BufferClusterLevel) (s : ℕ) (gs : Glyphs) → s + 1 ≤ length gs
    → after_steps level (map (widened s (s + 1) (length gs)) plain_steps) gs ≡ gs
still_run level s gs l = cc (picks_all s (length gs) gs l refl, merge_one level (s + 0) (s + 1) gs (omega arith))

pub plain_syllable : (r : Rules) (script : Option Script) (s e : ℕ) (g : Glyph) (b : Buffer) → s ≤ e
    → e ≤ length b.glyphs → stretch_of s e (order_view b.glyphs) ≡ plain_consonant g ∷ []
    → is_ligated g.glyph_props ≡ false → SyllableReordered (initial_order r script) (initial_steps r script) s e b b
plain_syllable r script s e g b h l is m =
    let v = order_view b.glyphs in
    let one : 1 ≡ e - s = sym (ap length is) ∙ (search (length-stretch, length-map)) in
    let end : e ≡ s + 1 = omega arith in
    let x = plain_consonant g ∷ [] in
    let ran : List Step → Glyphs =
    λ steps. after_steps b.level (map (widened s e (length b.glyphs)) steps) b.glyphs in
    record {
      others = refl;
      order = sym (stretch_stays s e (initial_order r script) v h (ap (initial_order r script) is
          ∙ (elim (cases_Bool (is_reordered_in_indic x)) [
            | inl on ↦ rw on (ap (λ gs. masked_in_order r script
                (in_indic_order gs)) (plain_positioned r script g m) ∙ masks_stay r script g)
            | inr off ↦ rw off refl
          ]) ∙ sym is));
      moved = ap (map carried) (sym (ap (λ gs. ran (initial_steps r script gs)) is
          ∙ (elim (cases_Bool (is_reordered_in_indic x)) [
            | inl on ↦ rw on (ap ran (plain_steps_are r script g m) ∙ cc (still_run b.level s b.glyphs (omega arith)))
            | inr off ↦ rw off refl
          ])));
    }

-- so where the code sees one
plain_glyph : (s e : ℕ) (b : Buffer) (xs : Glyphs) → (r : Rules) → (script : Option Script) → s ≤ e
    → e ≤ length b.glyphs → stretch_of s e b.glyphs ≡ xs → is_plain_consonant xs ≡ true
    → SyllableReordered (initial_order r script) (initial_steps r script) s e b b
plain_glyph s e b (g ∷ []) r script h l is on =
    let first = and_parts _ _ on in
    let both = and_parts _ _ first.0 in
    let category = eqb-true _ 1 both.0 in
    let v = plain g in
    let viewed =
    ap (λ c. (record v { category = c })) category
    ∙ ap (λ a. (record v { category = 1; auxiliary = a })) (eqb-true _ 4 both.1) in
    plain_syllable r script s e v b h l (sym (map-stretch plain s e _) ∙ ap order_view is
    ∙ ap (λ x. x ∷ []) viewed) (not_true _ first.1)
plain_glyph s e b _ r script h l is on = absurd (cc)

pub plain_here : (r : Rules) (script : Option Script) (s e : ℕ) (b : Buffer) → s ≤ e → e ≤ length b.glyphs
    → is_plain_consonant (stretch_of s e b.glyphs) ≡ true
    → SyllableReordered (initial_order r script) (initial_steps r script) s e b b
plain_here = search plain_glyph
