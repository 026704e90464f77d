-- What the initial reordering reads of glyphs: a view that shows another cluster, mask or syllable of
-- each shows the same.
use mathlib.Core.Path.{fun_ext}
use Rattle.std.proofs.Common.{ℕ, zero, suc, ◌+◌, ◌-◌, ◌≡◌, ◌==◌, ◌&&◌, ◌||◌, min, not, Bool, cond, if◌then◌else◌, List, [], ◌∷◌, map, length, take, drop, Option, refl, ◌∙◌, ap, max, flat_map}
use Rattle.std.specs.Prelude.{nat_le, nat_lt, unwrap_or, filter, fold}
use Rattle.std.specs.List.{prefix_len}
use Rattle.std.specs.Option.{option_map_or, option_or}
use Rattle.std.proofs.lemmas.List.{drop-map, length-map, take-map}
use Rattle.shapers_buffer.specs.Glyphs.{Glyph, Glyphs}
use Rattle.shapers_buffer.specs.declared.buffer.tag.Script.{Script}
use Rattle.shapers_buffer.specs.Glyph.{without_flags}
use Rattle.shapers_base.specs.declared.font.GlyphId.{GlyphId}
use Rattle.shapers_base.specs.declared.plan.indic.RephMode.{RephMode}
use Rattle.shapers_base.specs.declared.plan.indic.RephMode.TheVariants.{Explicit, Implicit, LogRepha}
use Rattle.shapers_base.specs.declared.plan.ot_category_t.TheConstants.{OT_H, OT_ZWJ}
use Rattle.shapers_base.specs.declared.plan.ot_position_t.TheConstants.{POS_BASE_C, POS_BELOW_C, POS_POST_C, POS_PRE_M}
use Rattle.shapers_clusters.proofs.EqualArguments.{same_two, same_three}
use Rattle.shapers_indic.specs.declared.ot_shaper_indic.indic_feature.TheConstants.{RPHF}
use Rattle.shapers_indic.specs.Glyphs.{greatest_place, has_category, has_position, is_joiner, least_place, number, numbers, passes, some_place, is_matra, places}
use Rattle.shapers_base.specs.declared.plan.indic.BaseSearch.{BaseSearch}
use Rattle.shapers_indic_initial.specs.InitialBase.{base_from, base_place, has_indic_reph, is_base, is_base_candidate, has_below_form, joiner_comes_first, limit, limit_behind, may_be_base, begins_with_repha, reph_is_formed, indic_reph_len, search_start, third_lets_reph}
use Rattle.shapers_indic_initial.specs.InitialOrder.{group, group_in_order, indic_ordered_places, last_unit_first, ordered_base}
use Rattle.shapers_indic_initial.specs.InitialRules.{Rules, mask_at}

-- what a view shows of clusters, masks and syllables; it shows all else as it is
pub record View : Type 0 where
  pub cluster : ℕ → ℕ
  pub mask : ℕ → ℕ
  pub syllable : ℕ → ℕ

abbrev pub shown : View → Glyph → Glyph
shown v g = record g { cluster = v.cluster g.cluster; mask = v.mask g.mask; syllable = v.syllable g.syllable }

-- the view without clusters and flags
abbrev pub plain_view : View
plain_view = record { cluster = λ _. 0; mask = without_flags; syllable = λ s. s }

module _ (v : View) where
  abbrev f : Glyph → Glyph
  f g = shown v g

  passes_at : (test : Glyph → Bool) → ((g : Glyph) → test (f g) ≡ test g)
      → (gs : Glyphs) (i : ℕ) → passes test (map f gs) i ≡ passes test gs i
  passes_at test reads [] i = refl
  passes_at test reads (g ∷ gs) zero = reads g
  passes_at test reads (g ∷ gs) (suc i) = passes_at test reads gs i

  pub passes_stays : (test : Glyph → Bool) → ((g : Glyph) → test (f g) ≡ test g)
      → (gs : Glyphs) → passes test (map f gs) ≡ passes test gs
  passes_stays test reads gs = fun_ext (passes_at test reads gs)

  pub prefix_stays : (test : Glyph → Bool) → ((g : Glyph) → test (f g) ≡ test g)
      → (gs : Glyphs) → prefix_len test (map f gs) ≡ prefix_len test gs
  prefix_stays test reads [] = refl
  prefix_stays test reads (g ∷ gs) = same_two (λ b n. cond b (1 + n) 0) (reads g) (prefix_stays test reads gs)

  pub numbers_stay : (gs : Glyphs) → numbers (map f gs) ≡ numbers gs
  numbers_stay [] = refl
  numbers_stay (g ∷ gs) = ap (λ ns. number g ∷ ns) (numbers_stay gs)

  -- the step of Kannada
  pub joiner_first_stays : (script : Option Script) (gs : Glyphs)
      → joiner_comes_first script (map f gs) ≡ joiner_comes_first script gs
  joiner_first_stays script [] = refl
  joiner_first_stays script (a ∷ []) = refl
  joiner_first_stays script (a ∷ (b ∷ [])) = refl
  joiner_first_stays script (a ∷ (b ∷ (c ∷ gs))) = refl

  -- the reph
  third_stays : (mode : RephMode) (gs : Glyphs)
      → third_lets_reph mode (map f gs) ≡ third_lets_reph mode gs
  third_stays mode [] = refl
  third_stays mode (a ∷ []) = refl
  third_stays mode (a ∷ (b ∷ [])) = refl
  third_stays Implicit (a ∷ (b ∷ (c ∷ gs))) = refl
  third_stays Explicit (a ∷ (b ∷ (c ∷ gs))) = refl
  third_stays LogRepha (a ∷ (b ∷ (c ∷ gs))) = refl

  numbers_taken : (n : ℕ) (gs : Glyphs) → numbers (take n (map f gs)) ≡ numbers (take n gs)
  numbers_taken n gs = ap numbers (take-map f n gs) ∙ numbers_stay (take n gs)

  formed_stays : (mode : RephMode) (forms : List GlyphId → Bool) (gs : Glyphs)
      → reph_is_formed mode forms (map f gs) ≡ reph_is_formed mode forms gs
  formed_stays Implicit forms gs = ap forms (numbers_taken 2 gs)
  formed_stays Explicit forms gs = same_two (λ a b. forms a || forms b) (numbers_taken 2 gs) (numbers_taken 3 gs)
  formed_stays LogRepha forms gs = refl

  repha_stays : (mode : RephMode) (gs : Glyphs) → begins_with_repha mode (map f gs)
      ≡ begins_with_repha mode gs
  repha_stays LogRepha [] = refl
  repha_stays LogRepha (g ∷ gs) = refl
  repha_stays Implicit gs = refl
  repha_stays Explicit gs = refl

  reph_len_stays : (r : Rules) (gs : Glyphs) → indic_reph_len r (map f gs) ≡ indic_reph_len r gs
  reph_len_stays r gs =
      same_three (λ (d e o : Bool). if not (mask_at r RPHF == 0) && d then (if e then 2 else 0)
      else if o then 1 else 0) (third_stays r.config.reph_mode gs)
      (formed_stays r.config.reph_mode r.forms_reph gs) (repha_stays r.config.reph_mode gs)

  limit_stays : (r : Rules) (gs : Glyphs) → limit r (map f gs) ≡ limit r gs
  limit_stays r gs =
      ap (λ n. limit_behind n (map f gs)) (reph_len_stays r gs)
      ∙ ap (λ j. if indic_reph_len r gs == 0 then 0 else indic_reph_len r gs + j)
      (ap (prefix_len is_joiner) (drop-map f (indic_reph_len r gs) gs)
      ∙ prefix_stays is_joiner (λ g. refl) (drop (indic_reph_len r gs) gs))

  -- the base
  may_stays : (search : BaseSearch) (gs : Glyphs) → may_be_base search (map f gs)
      ≡ may_be_base search gs
  may_stays search gs = passes_stays (is_base_candidate search) (λ g. refl) gs

  search_start_stays : (r : Rules) (gs : Glyphs) → search_start r (map f gs) ≡ search_start r gs
  search_start_stays r gs =
      same_three (λ (t : ℕ → Bool) l n. option_map_or suc (greatest_place t (min l (n - 1)) n) (min l (n - 1)))
      (same_two (λ (a b : ℕ → Bool). λ i. nat_lt 0 i && a i && b (i - 1))
      (passes_stays (has_category OT_ZWJ) (λ g. refl) gs) (passes_stays (has_category OT_H) (λ g. refl) gs))
      (limit_stays r gs) (length-map gs f)

  below_stays : (search : BaseSearch) (gs : Glyphs) → has_below_form search (map f gs)
      ≡ has_below_form search gs
  below_stays search gs =
      same_two (λ (a b : ℕ → Bool). λ i. a i && b i) (may_stays search gs)
      (passes_stays (has_position POS_BELOW_C) (λ g. refl) gs)

  is_base_stays : (search : BaseSearch) (gs : Glyphs) → is_base search (map f gs) ≡ is_base search gs
  is_base_stays search gs =
      same_three (λ (m b : ℕ → Bool) (t : (ℕ → Bool) × ℕ).
      λ i. m i && not (b i) && (not (t.0 i) || some_place b (i + 1) t.1)) (may_stays search gs)
      (below_stays search gs) (same_two (λ (p : ℕ → Bool) (n : ℕ). (p, n))
      (passes_stays (has_position POS_POST_C) (λ g. refl) gs) (length-map gs f))

  base_from_stays : (search : BaseSearch) (start otherwise : ℕ) (gs : Glyphs)
      → base_from search start otherwise (map f gs) ≡ base_from search start otherwise gs
  base_from_stays search start otherwise gs =
      same_three (λ (b m : ℕ → Bool) (n : ℕ). unwrap_or (option_or (greatest_place b start n) (least_place m start n))
      otherwise) (is_base_stays search gs) (may_stays search gs) (length-map gs f)

  pub base_stays : (r : Rules) (gs : Glyphs) → base_place r (map f gs) ≡ base_place r gs
  base_stays r gs =
      let us = map f gs in
      base_from_stays r.search (search_start r us) (if indic_reph_len r us == 0 then length us else 0) gs
      ∙ same_three (λ s j n. base_from r.search s (if j == 0 then n else 0) gs) (search_start_stays r gs)
      (reph_len_stays r gs) (length-map gs f)

  pub has_reph_stays : (r : Rules) (gs : Glyphs) → has_indic_reph r (map f gs) ≡ has_indic_reph r gs
  has_reph_stays r gs =
      same_three (λ (j b l : ℕ). not (j == 0) && not (b == 0 && nat_le l 2)) (reph_len_stays r gs) (base_stays r gs)
      (limit_stays r gs)

  -- the base of an ordered syllable
  pub ordered_base_stays : (gs : Glyphs) → ordered_base (map f gs) ≡ ordered_base gs
  ordered_base_stays gs =
      same_two (λ t n. unwrap_or (least_place t 0 n) n) (passes_stays (has_position POS_BASE_C) (λ g. refl) gs)
      (length-map gs f)

  -- the order of a syllable
  group_stays : (p : ℕ) (gs : Glyphs) → group (map f gs) p ≡ group gs p
  group_stays p gs = same_two (λ t n. filter t (places 0 n)) (passes_stays (has_position p) (λ g. refl) gs)
      (length-map gs f)

  in_order_at : (p : ℕ) (gs : Glyphs) → group_in_order (map f gs) p ≡ group_in_order gs p
  in_order_at p gs =
      same_two (λ (t : ℕ → Bool) ps. if p == POS_PRE_M then last_unit_first t ps else ps)
      (passes_stays is_matra (λ g. refl) gs) (group_stays p gs)

  auxiliaries_stay : (gs : Glyphs) → map (λ g. g.auxiliary) (map f gs) ≡ map (λ g. g.auxiliary) gs
  auxiliaries_stay [] = refl
  auxiliaries_stay (g ∷ gs) = ap (λ ps. g.auxiliary ∷ ps) (auxiliaries_stay gs)

  pub ordered_places_stay : (gs : Glyphs) → indic_ordered_places (map f gs) ≡ indic_ordered_places gs
  ordered_places_stay gs =
      same_two (λ (o : ℕ → List ℕ) ps. flat_map o ps) (fun_ext (λ p. in_order_at p gs))
      (ap (λ ps. places 0 (suc (fold max 0 ps))) (auxiliaries_stay gs))
