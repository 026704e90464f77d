-- The order and its steps: what the steps lead to is the order, and neither sees clusters, masks and serials.
use Rattle.std.proofs.Common.{◌≡◌, ℕ, suc, Bool, true, false, if◌then◌else◌, List, [], ◌∷◌, ◌++◌, map, filter, reverse, not, nat_eq, ◌==◌, length, take, drop, Option, None, Some, refl, ap, sym, ◌∙◌, arith}
use Rattle.std.specs.List.{flat_map, list_any, range_with_len, slice_get}
use Rattle.std.specs.Option.{option_map, option_map_or}
use Rattle.std.proofs.lemmas.List.{length-map, map-append, take_at, drop_at}
use Rattle.std.proofs.lemmas.Option.{slice_get-map}
use Rattle.shapers_buffer.specs.Glyphs.{Glyph, Glyphs}
use Rattle.shapers_buffer.specs.declared.buffer.level.BufferClusterLevel.TheVariants.{Characters}
use Rattle.shapers_buffer.specs.Glyph.{order_view, plain}
use Rattle.shapers_buffer.specs.Lists.{cut_after}
use Rattle.shapers_buffer.specs.Places.{pick}
use Rattle.shapers_buffer.proofs.MappedLists.{cut_after-map, prefix_len-map}
use Rattle.shapers_clusters.specs.Flags.{seen}
use Rattle.shapers_clusters.specs.Steps.{FitsStep, Step, old_places, reordered_along, after_steps, steps_along}
use Rattle.shapers_clusters.proofs.Moves.{order_view-after_steps}
use Rattle.shapers_clusters.proofs.Picks.{pick-all, pick-map}
use Rattle.shapers_clusters.proofs.Widened.{order_view-along}
use Rattle.shapers_syllabic.specs.Reordering.{carried}
use Rattle.shapers_syllabic.specs.ReorderingLaws.{ReorderLaws}
use Rattle.shapers_syllabic.proofs.ReorderingLemmas.{old_places_one}
use Rattle.shapers_syllabic.proofs.Views.{KeepsKinds, View, plain_view, seen_by, shown}
use Rattle.shapers_universal.specs.Universal.{first_behind, goes_front, goes_front_at, is_universal_halant, reph_passes, is_reordered_in_universal, piece_step, piece_steps, pieces, places_within, reph_moved, leading_reph_len, universal_reph_step, reversed_first, universal_order, universal_steps}
use Rattle.shapers_universal.specs.Proved.UniversalLists.{cut_after-concat, filter-same, first_behind-map, length-first_behind, mapped_twice, pick-first_behind, pick-reversed_first, reversed_first-map}
use Rattle.shapers_universal.specs.Proved.UniversalSteps.{all_pieces, piece_fits, pieces_sum, leading_reph_len-within, universal_fits, universal_permutes}

-- what the step of the reph picks
pub reph_picks : (h : Glyph → Glyph) (gs : Glyphs)
    → pick (universal_reph_step gs).places (map h gs) ≡ map h (reph_moved gs)
reph_picks h gs = pick-map h (universal_reph_step gs).places gs
    ∙ ap (map h) (pick-first_behind (leading_reph_len gs) gs (leading_reph_len-within gs))

-- and that of a piece
front_told : (gs : Glyphs) (p : ℕ) (x : Glyph) → slice_get gs p ≡ Some x
    → goes_front_at gs p ≡ goes_front x
front_told gs p x h = ap (λ o. option_map_or goes_front o false) h

pub piece_picks : (gs : Glyphs) → pick (piece_step gs).places gs ≡ reversed_first goes_front gs
piece_picks gs = pick-reversed_first (goes_front_at gs) goes_front gs (front_told gs)

-- the steps of pieces reorder each for itself
along_pieces : {Y : Type 0} (f : Glyph → Y) (ps : List Glyphs)
    → reordered_along (piece_steps ps) (map f (flat_map (λ piece. piece) ps))
    ≡ map f (flat_map (reversed_first goes_front) ps)
along_pieces f [] = refl
along_pieces f (piece ∷ ps) =
    let n = length piece in
    let rest = flat_map (λ p. p) ps in
    let split : map f (piece ++ rest) ≡ map f piece ++ map f rest = map-append f piece rest in
    let first : take n (map f (piece ++ rest)) ≡ map f piece = ap (take n) split
    ∙ take_at (map f piece) (map f rest) n (length-map piece f) in
    let others : drop n (map f (piece ++ rest)) ≡ map f rest = ap (drop n) split
    ∙ drop_at (map f piece) (map f rest) n (length-map piece f) in
    ap (λ ys. pick (old_places n (piece_step piece ∷ [])) ys
    ++ reordered_along (piece_steps ps) (drop n (map f (piece ++ rest)))) first
    ∙ ap (λ qs. pick qs (map f piece) ++ reordered_along (piece_steps ps) (drop n (map f (piece ++ rest))))
    (old_places_one n (piece_step piece) (piece_fits piece))
    ∙ ap (λ ys. ys ++ reordered_along (piece_steps ps) (drop n (map f (piece ++ rest))))
    (pick-map f (piece_step piece).places piece ∙ ap (map f) (piece_picks piece))
    ∙ ap (λ ys. map f (reversed_first goes_front piece) ++ ys) (ap (reordered_along (piece_steps ps)) others
    ∙ along_pieces f ps)
    ∙ sym (map-append f (reversed_first goes_front piece) (flat_map (reversed_first goes_front) ps))

-- the steps of a syllable that is reordered, over what h makes of its glyphs
steps_lead : (h : Glyph → Glyph) (gs : Glyphs)
    → order_view (after_steps Characters (universal_reph_step gs ∷ steps_along (length gs) 0 (piece_steps (pieces gs)))
    (map h gs)) ≡ order_view (map h (flat_map (reversed_first goes_front) (pieces gs)))
steps_lead h gs =
    let ps = pieces gs in
    let zs = map h (reph_moved gs) in
    let long : length zs ≡ length gs = length-map (reph_moved gs) h ∙ length-first_behind (leading_reph_len gs) gs in
    let fit = all_pieces FitsStep piece_fits ps in
    let whole : zs ≡ map h (flat_map (λ piece. piece) ps) =
    ap (map h) (sym (cut_after-concat is_universal_halant (reph_moved gs))) in
    ap (λ ys. order_view (after_steps Characters (steps_along (length gs) 0 (piece_steps ps)) ys)) (reph_picks h gs)
    ∙ ap (λ n. order_view (after_steps Characters (steps_along n 0 (piece_steps ps)) zs)) (sym long)
    ∙ order_view-along Characters 0 (piece_steps ps) zs (omega (arith, pieces_sum gs)) fit
    ∙ ap (λ ys. reordered_along (piece_steps ps) (order_view ys)) whole
    ∙ ap (reordered_along (piece_steps ps)) (mapped_twice plain h (flat_map (λ piece. piece) ps))
    ∙ along_pieces (λ g. plain (h g)) ps
    ∙ sym (mapped_twice plain h (flat_map (reversed_first goes_front) ps))

-- what all steps pick, through what h makes of the glyphs
pub picked_order : (h : Glyph → Glyph) (gs : Glyphs)
    → pick (old_places (length gs) (universal_steps gs)) (order_view (map h gs))
    ≡ order_view (map h (universal_order gs))
picked_order h gs =
    let n = length gs in
    let long : length (map h gs) ≡ length gs = length-map gs h in
    elim (is_reordered_in_universal gs) as (λ b. pick
    (old_places n (if b then universal_reph_step gs ∷ steps_along n 0 (piece_steps (pieces gs)) else []))
    (order_view (map h gs))
    ≡ order_view (map h (if b then flat_map (reversed_first goes_front) (pieces gs) else gs))) [
      | true ↦
          let steps = universal_reph_step gs ∷ steps_along n 0 (piece_steps (pieces gs)) in
          ap (λ k. pick (old_places k steps) (order_view (map h gs))) (sym long)
          ∙ sym (order_view-after_steps Characters steps (map h gs))
          ∙ steps_lead h gs
      | false ↦ pick-all n (order_view (map h gs)) (length-map (map h gs) plain ∙ long)
    ]

pub universal_agrees : (gs : Glyphs) → seen carried (universal_order gs)
    ≡ pick (old_places (length gs) (universal_steps gs)) (seen carried gs)
universal_agrees gs =
    sym (mapped_twice plain carried (universal_order gs))
    ∙ sym (picked_order carried gs)
    ∙ ap (pick (old_places (length gs) (universal_steps gs))) (mapped_twice plain carried gs)

-- what a pause asks of the order
pub universal_laws : ReorderLaws universal_order universal_steps
universal_laws = record { fits = universal_fits; permutes = universal_permutes; agrees = universal_agrees }

-- clusters, masks and serials are not seen
leading_reph_len-seen : (v : View) (gs : Glyphs) → leading_reph_len (seen_by v gs) ≡ leading_reph_len gs
leading_reph_len-seen v [] = refl
leading_reph_len-seen v (g ∷ gs) = ap (λ k. if nat_eq g.category 18 then suc k else 0) (prefix_len-map reph_passes (shown v) gs)

is_reordered-seen : (v : View) → KeepsKinds v → (gs : Glyphs) → is_reordered_in_universal (seen_by v gs)
    ≡ is_reordered_in_universal gs
is_reordered-seen v kinds [] = refl
is_reordered-seen v kinds (g ∷ gs) =
    ap (λ k. list_any (λ category. category == k) (0 ∷ (1 ∷ (2 ∷ (7 ∷ []))))) (kinds g.syllable)

reph_moved-seen : (v : View) (gs : Glyphs) → reph_moved (seen_by v gs) ≡ seen_by v (reph_moved gs)
reph_moved-seen v gs = ap (λ k. first_behind k (seen_by v gs)) (leading_reph_len-seen v gs)
    ∙ first_behind-map (shown v) (leading_reph_len gs) gs

pub pieces_cut-seen : (v : View) (gs : Glyphs) → cut_after is_universal_halant (seen_by v gs)
    ≡ map (seen_by v) (cut_after is_universal_halant gs)
pieces_cut-seen v gs = cut_after-map is_universal_halant (shown v) gs

pieces-seen : (v : View) (gs : Glyphs) → pieces (seen_by v gs) ≡ map (seen_by v) (pieces gs)
pieces-seen v gs = ap (cut_after is_universal_halant) (reph_moved-seen v gs) ∙ pieces_cut-seen v (reph_moved gs)

at_seen : (v : View) (o : Option Glyph) → option_map_or goes_front (option_map (shown v) o) false
    ≡ option_map_or goes_front o false
at_seen v None = refl
at_seen v (Some g) = refl

pub goes_front_at-seen : (v : View) (gs : Glyphs) (i : ℕ) → goes_front_at (seen_by v gs) i
    ≡ goes_front_at gs i
goes_front_at-seen v gs i = ap (λ o. option_map_or goes_front o false) (slice_get-map (shown v) gs i)
    ∙ at_seen v (slice_get gs i)

pub piece_step-seen : (v : View) (gs : Glyphs) → piece_step (seen_by v gs) ≡ piece_step gs
piece_step-seen v gs =
    let step : List ℕ → (ℕ → Bool) → Step =
    λ ps t. record {
      merged_first = map (λ i. (0, suc i)) (filter t ps);
      places = reversed_first t ps;
      merged_then = [];
    } in
    let made : List ℕ → List ℕ → List ℕ → Step =
    λ yes no ps. record {
      merged_first = map (λ i. (0, suc i)) yes;
      places = reverse yes ++ no;
      merged_then =
          [];
    } in
    let t = goes_front_at (seen_by v gs) in
    let u = goes_front_at gs in
    let ps = places_within gs in
    let same = goes_front_at-seen v gs in
    ap (λ n. step (range_with_len 0 n) t) (length-map gs (shown v))
    ∙ ap (λ yes. made yes (filter (λ x. not (t x)) ps) ps) (filter-same t u ps same)
    ∙ ap (λ no. made (filter u ps) no ps) (filter-same (λ x. not (t x)) (λ x. not (u x)) ps (λ x. ap not (same x)))

pub piece_steps-seen : (v : View) (ps : List Glyphs) → piece_steps (map (seen_by v) ps) ≡ piece_steps ps
piece_steps-seen v [] = refl
piece_steps-seen v (piece ∷ ps) =
    ap (λ n. (n, piece_step (seen_by v piece) ∷ []) ∷ piece_steps (map (seen_by v) ps)) (length-map piece (shown v))
    ∙ ap (λ s. (length piece, s ∷ []) ∷ piece_steps (map (seen_by v) ps)) (piece_step-seen v piece)
    ∙ ap (λ qs. (length piece, piece_step piece ∷ []) ∷ qs) (piece_steps-seen v ps)

pub reph_step-seen : (v : View) (gs : Glyphs) → universal_reph_step (seen_by v gs)
    ≡ universal_reph_step gs
reph_step-seen v gs =
    let step : ℕ → ℕ → Step =
    λ k n. record {
      merged_first = (0, k) ∷ [];
      places = first_behind k (range_with_len 0 n);
      merged_then =
          [];
    } in
    ap (λ k. step k (length (seen_by v gs))) (leading_reph_len-seen v gs) ∙ ap (step (leading_reph_len gs)) (length-map gs (shown v))

pub universal_steps-seen : (v : View) → KeepsKinds v → (gs : Glyphs) → universal_steps (seen_by v gs)
    ≡ universal_steps gs
universal_steps-seen v kinds gs =
    let made : Bool → Step → ℕ → List (ℕ × List Step) → List Step =
    λ b reph n ps. if b then reph ∷ steps_along n 0 ps else [] in
    ap (λ b. made b (universal_reph_step (seen_by v gs)) (length (seen_by v gs)) (piece_steps (pieces (seen_by v gs))))
    (is_reordered-seen v kinds gs)
    ∙ ap (λ s. made (is_reordered_in_universal gs) s (length (seen_by v gs)) (piece_steps (pieces (seen_by v gs))))
    (reph_step-seen v gs)
    ∙ ap (λ n. made (is_reordered_in_universal gs) (universal_reph_step gs) n (piece_steps (pieces (seen_by v gs))))
    (length-map gs (shown v))
    ∙ ap (λ ps. made (is_reordered_in_universal gs) (universal_reph_step gs) (length gs) ps)
    (ap piece_steps (pieces-seen v gs) ∙ piece_steps-seen v (pieces gs))

ordered-seen : (v : View) (ps : List Glyphs) → flat_map (reversed_first goes_front) (map (seen_by v) ps)
    ≡ seen_by v (flat_map (reversed_first goes_front) ps)
ordered-seen v [] = refl
ordered-seen v (piece ∷ ps) =
    ap (λ ys. ys ++ flat_map (reversed_first goes_front) (map (seen_by v) ps))
    (reversed_first-map goes_front (shown v) piece)
    ∙ ap (λ ys. seen_by v (reversed_first goes_front piece) ++ ys) (ordered-seen v ps)
    ∙ sym (map-append (shown v) (reversed_first goes_front piece) (flat_map (reversed_first goes_front) ps))

pub universal_order-seen : (v : View) → KeepsKinds v → (gs : Glyphs) → universal_order (seen_by v gs)
    ≡ seen_by v (universal_order gs)
universal_order-seen v kinds gs =
    ap (λ b. if b then flat_map (reversed_first goes_front) (pieces (seen_by v gs)) else seen_by v gs)
    (is_reordered-seen v kinds gs)
    ∙ elim (is_reordered_in_universal gs) as (λ b.
    (if b then flat_map (reversed_first goes_front) (pieces (seen_by v gs)) else seen_by v gs)
    ≡ seen_by v (if b then flat_map (reversed_first goes_front) (pieces gs) else gs)) [
      | true ↦ ap (flat_map (reversed_first goes_front)) (pieces-seen v gs) ∙ ordered-seen v (pieces gs)
      | false ↦ refl
    ]

pub universal_steps-view : (gs : Glyphs) → universal_steps (order_view gs) ≡ universal_steps gs
universal_steps-view gs = universal_steps-seen plain_view (λ b. refl) gs

pub universal_order-view : (gs : Glyphs) → universal_order (order_view gs)
    ≡ order_view (universal_order gs)
universal_order-view gs = universal_order-seen plain_view (λ b. refl) gs
