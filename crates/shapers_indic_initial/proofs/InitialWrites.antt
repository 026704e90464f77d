-- Positions and places in such a view: they are those of the glyphs themselves.
use Rattle.std.proofs.Common.{ℕ, ◌+◌, ◌≡◌, ◌&&◌, ◌||◌, ◌++◌, nat_le, not, Bool, true, false, cond, if◌then◌else◌, [], ◌∷◌, map, take, drop, reverse, find, Option, None, Some, refl, sym, ◌∙◌, ap}
use Rattle.std.specs.List.{enumerate_from}
use Rattle.std.specs.Option.{option_map_or}
use Rattle.std.proofs.lemmas.List.{drop-map, length-map, map-append, take-map}
use Rattle.shapers_buffer.specs.Glyphs.{Glyph, Glyphs}
use Rattle.shapers_buffer.specs.declared.buffer.tag.Script.{Script}
use Rattle.shapers_buffer.specs.Glyph.{at_position}
use Rattle.shapers_buffer.specs.Lists.{each_after}
use Rattle.shapers_base.specs.declared.plan.ot_category_t.TheConstants.{OT_H}
use Rattle.shapers_base.specs.declared.plan.ot_position_t.TheConstants.{POS_PRE_M, POS_SMVD}
use Rattle.shapers_clusters.proofs.EqualArguments.{same_two}
use Rattle.shapers_indic.specs.Glyphs.{greatest_place, has_category, has_position, least_place, places}
use Rattle.shapers_indic_initial.specs.InitialBase.{base_place, has_indic_reph}
use Rattle.shapers_indic_initial.specs.InitialPositions.{attached_to, before_next, bounds, by_base, carries, draws_sign, halant_after, halant_behind, halant_from, halant_places, halant_to, is_attached, is_passed_by_halant, last_after_halant, moved_behind, owned_by, position_by_base, with_attached, with_halants, with_marks_attached, with_owner, with_owners, with_owners_after, with_signs}
use Rattle.shapers_indic_initial.specs.InitialReordering.{with_base_positions}
use Rattle.shapers_indic_initial.specs.InitialRules.{Rules}
use Rattle.shapers_indic_initial.proofs.InitialReads.{View, base_stays, has_reph_stays, passes_stays, shown}
use Rattle.shapers_syllabic.specs.Consonants.{is_consonant}
use Rattle.shapers_buffer.proofs.MappedLists.{map-reverse}

module _ (v : View) where
  abbrev f : Glyph → Glyph
  f g = shown v g

  -- glyphs changed by their places, and by what stands before them
  pub numbered_stays : (change : ℕ → Glyph → Glyph)
      → ((i : ℕ) (g : Glyph) → change i (f g) ≡ f (change i g)) → (n : ℕ) (gs : Glyphs)
      → map (λ t. change t.0 t.1) (enumerate_from n (map f gs)) ≡ map f (map (λ t. change t.0 t.1)
      (enumerate_from n gs))
  numbered_stays change each n [] = refl
  numbered_stays change each n (g ∷ gs) =
      same_two (λ x xs. x ∷ xs) (each n g) (numbered_stays change each (n + 1) gs)

  after_stays : (change : Glyphs → Glyph → Glyph)
      → ((before : Glyphs) (g : Glyph) → change (map f before) (f g) ≡ f (change before g))
      → (before gs : Glyphs) → map (λ t. change t.0 t.1) (each_after (map f before) (map f gs))
      ≡ map f (map (λ t. change t.0 t.1) (each_after before gs))
  after_stays change stays before [] = refl
  after_stays change stays before (g ∷ gs) =
      same_two (λ x xs. x ∷ xs) (stays before g)
      (ap (λ ys. map (λ t. change t.0 t.1) (each_after ys (map f gs))) (sym (map-append f before (g ∷ [])))
      ∙ after_stays change stays (before ++ g ∷ []) gs)

  -- positions by the base
  pub with_base_stays : (r : Rules) (gs : Glyphs) → with_base_positions r (map f gs)
      ≡ map f (with_base_positions r gs)
  with_base_stays r gs =
      same_two (λ b h. by_base b h (map f gs)) (base_stays v r gs) (has_reph_stays v r gs)
      ∙ numbered_stays (λ i g. at_position (position_by_base (base_place r gs) (has_indic_reph r gs) i g.auxiliary) g)
      (λ i g. refl) 0 gs

  -- the glyph with another position in one case
  if_stays : (b : Bool) (p : ℕ) (g : Glyph) → (if b then at_position p (f g) else f g)
      ≡ f (if b then at_position p g else g)
  if_stays true p g = refl
  if_stays false p g = refl

  -- the nearest glyph before that passes a test
  found_position : (test : Glyph → Bool) → ((g : Glyph) → test (f g) ≡ test g) → (d : ℕ)
      (gs : Glyphs) → option_map_or (λ h. h.auxiliary) (find test (map f gs)) d
      ≡ option_map_or (λ h. h.auxiliary) (find test gs) d
  found_position test reads d [] = refl
  found_position test reads d (g ∷ gs) =
      ap (λ b. option_map_or (λ h. h.auxiliary) (cond b (Some (f g)) (find test (map f gs))) d) (reads g)
      ∙ (elim (test g) as (λ b. option_map_or (λ h. h.auxiliary) (cond b (Some (f g)) (find test (map f gs))) d
      ≡ option_map_or (λ h. h.auxiliary) (cond b (Some g) (find test gs)) d) [
        | true ↦ refl
        | false ↦ found_position test reads d gs
      ])

  nearest_stays : (test : Glyph → Bool) → ((g : Glyph) → test (f g) ≡ test g) → (d : ℕ)
      (before : Glyphs) → option_map_or (λ h. h.auxiliary) (find test (reverse (map f before))) d
      ≡ option_map_or (λ h. h.auxiliary) (find test (reverse before)) d
  nearest_stays test reads d before =
      ap (λ xs. option_map_or (λ h. h.auxiliary) (find test xs) d) (sym (map-reverse f before))
      ∙ found_position test reads d (reverse before)

  -- what goes with what stands before it
  attached_to_stays : (before : Glyphs) (g : Glyph) → attached_to (map f before) (f g)
      ≡ f (attached_to before g)
  attached_to_stays before g =
      ap (λ p. if is_attached g then at_position p (f g) else f g) (nearest_stays carries (λ g. refl) 0 before)
      ∙ if_stays (is_attached g) _ g

  next_stays : (g : Glyph) (gs : Glyphs) → before_next (f g) (map f gs) ≡ f (before_next g gs)
  next_stays g [] = refl
  next_stays g (next ∷ gs) = if_stays (draws_sign g next) next.auxiliary g

  with_signs_stays : (gs : Glyphs) → with_signs (map f gs) ≡ map f (with_signs gs)
  with_signs_stays [] = refl
  with_signs_stays (g ∷ gs) = same_two (λ x xs. x ∷ xs) (next_stays g gs) (with_signs_stays gs)

  behind_stays : (before : Glyphs) (g : Glyph) → halant_behind (map f before) (f g)
      ≡ f (halant_behind before g)
  behind_stays before g =
      ap (λ p. if has_category OT_H g && has_position POS_PRE_M g then at_position p (f g) else f g)
      (nearest_stays (λ h. not (has_position POS_PRE_M h)) (λ h. refl) POS_PRE_M before)
      ∙ if_stays (has_category OT_H g && has_position POS_PRE_M g) _ g

  pub with_marks_stays : (gs : Glyphs) → with_marks_attached (map f gs)
      ≡ map f (with_marks_attached gs)
  with_marks_stays gs =
      ap (λ xs. with_halants (with_signs xs)) (after_stays attached_to attached_to_stays [] gs)
      ∙ ap with_halants (with_signs_stays (with_attached gs))
      ∙ after_stays halant_behind behind_stays [] (with_signs (with_attached gs))

  -- what consonants own
  owned_stays : (gs : Glyphs) (g : Glyph) → owned_by (find bounds (map f gs)) (f g)
      ≡ f (owned_by (find bounds gs) g)
  owned_stays [] g = refl
  owned_stays (h ∷ gs) g =
      elim (bounds h) as (λ b. owned_by (cond b (Some (f h)) (find bounds (map f gs))) (f g)
      ≡ f (owned_by (cond b (Some h) (find bounds gs)) g)) [
        | true ↦ if_stays (is_consonant h) h.auxiliary g
        | false ↦ owned_stays gs g
      ]

  owner_stays : (gs : Glyphs) (g : Glyph) → with_owner (map f gs) (f g)
      ≡ f (with_owner gs g)
  owner_stays gs g =
      elim (bounds g || nat_le POS_SMVD g.auxiliary) as (λ b. (if b then f g else owned_by (find bounds (map f gs))
      (f g)) ≡ f (if b then g else owned_by (find bounds gs) g)) [
        | true ↦ refl
        | false ↦ owned_stays gs g
      ]

  with_owners_stays : (gs : Glyphs) → with_owners (map f gs) ≡ map f (with_owners gs)
  with_owners_stays [] = refl
  with_owners_stays (g ∷ gs) = same_two (λ x xs. x ∷ xs) (owner_stays gs g) (with_owners_stays gs)

  pub with_owners_after_stays : (base : ℕ) (gs : Glyphs) → with_owners_after base (map f gs)
      ≡ map f (with_owners_after base gs)
  with_owners_after_stays base gs =
      same_two (λ xs ys. xs ++ ys) (take-map f (base + 1) gs) (ap with_owners (drop-map f (base + 1) gs)
      ∙ with_owners_stays (drop (base + 1) gs))
      ∙ sym (map-append f (take (base + 1) gs) (with_owners (drop (base + 1) gs)))

  -- the older specification's H
  to_stays : (gs : Glyphs) (h : ℕ) (o : Option ℕ) → halant_to (map f gs) h o ≡ halant_to gs h o
  to_stays gs h None = ap (places 0) (length-map gs f)
  to_stays gs h (Some j) =
      same_two (λ (test : ℕ → Bool) n. if test j then places 0 n else moved_behind h j (places 0 n))
      (passes_stays v (has_category OT_H) (λ g. refl) gs) (length-map gs f)

  from_stays : (script : Option Script) (gs : Glyphs) (o : Option ℕ)
      → halant_from script (map f gs) o ≡ halant_from script gs o
  from_stays script gs None = ap (places 0) (length-map gs f)
  from_stays script gs (Some h) =
      ap (halant_to (map f gs) h) (same_two (λ test n. greatest_place test (h + 1) n)
      (passes_stays v (is_passed_by_halant script) (λ g. refl) gs) (length-map gs f))
      ∙ to_stays gs h (last_after_halant script gs h)

  pub halant_places_stay : (r : Rules) (script : Option Script) (base : ℕ) (gs : Glyphs)
      → halant_places r script base (map f gs) ≡ halant_places r script base gs
  halant_places_stay r script base gs =
      same_two (λ xs ys. if r.old then xs else ys) (ap (halant_from script (map f gs))
      (same_two (λ test n. least_place test (base + 1) n) (passes_stays v (has_category OT_H) (λ g. refl) gs)
      (length-map gs f)) ∙ from_stays script gs (halant_after base gs)) (ap (places 0) (length-map gs f))
