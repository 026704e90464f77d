-- The steps of a placement, one after another, on the glyphs of a whole buffer.
use Rattle.std.proofs.Common.{◌≡◌, ℕ, ◌+◌, ◌-◌, ◌<◌, ◌≤◌, true, false, List, [], ◌∷◌, ◌++◌, length, take, drop, map, filter, Some, get_or, reverse, arith}
use Rattle.std.proofs.Math.ListN.{get_or-map}
use Rattle.std.specs.List.{enumerate_from}
use Rattle.std.proofs.lemmas.List.{get_or-take, get_or_append_left, length-take-le, reverse-append}
use Rattle.std.proofs.lemmas.List.Sorted.{IsPermutation-append_left, IsPermutation-append_right, length_permutation}
use Rattle.shapers_buffer.specs.Glyphs.{Glyph, Glyphs}
use Rattle.shapers_buffer.specs.declared.buffer.level.BufferClusterLevel.{BufferClusterLevel}
use Rattle.shapers_buffer.specs.Lists.{first_last}
use Rattle.shapers_buffer.specs.Buffer.{Buffer}
use Rattle.shapers_buffer.specs.Clusters.{merge, stretch_of, with_stretch}
use Rattle.shapers_buffer.specs.Glyph.{order_view, plain}
use Rattle.shapers_buffer.proofs.ClusterLemmas.{length-stretch, three_parts}
use Rattle.shapers_clusters.specs.Steps.{Step, after_step, after_steps, widened}
use Rattle.shapers_clusters.proofs.Merging.{length-merge, order_view-merge}
use Rattle.shapers_clusters.proofs.Picks.{pick-all, within_range}
use Rattle.shapers_clusters.proofs.Widened.{pick-widened}
use Rattle.shapers_indic.specs.Glyphs.{least_place, passes, places}
use Rattle.shapers_indic_final.specs.FinalGlyphs.{last_goes_first}
use Rattle.shapers_indic_final.specs.FinalMatras.{end_of_base, is_left, matra_step, merging_step, staying_steps}
use Rattle.shapers_indic_final.specs.FinalPref.{pref_move}
use Rattle.shapers_indic_final.specs.Proved.FinalMoves.{permutes_last_first}
use Rattle.shapers_indic_final.specs.Proved.FinalSteps.{length-moved, matra_stepped, pref_stepped}
use Rattle.shapers_indic.proofs.PlaceSearch.{places_first}

-- how many glyphs there are after a step
length-moved_back : (s e : ℕ) (gs : Glyphs) → s ≤ e → length (with_stretch s e last_goes_first gs) ≡ length gs
length-moved_back s e gs l =
    let part = stretch_of s e gs in
    let is = IsPermutation-append_right (take s gs) (part ++ drop e gs) (last_goes_first part ++ drop e gs)
    (IsPermutation-append_left (drop e gs) part (last_goes_first part) (permutes_last_first part)) in
    cc (
      length_permutation (take s gs ++ (part ++ drop e gs)) (with_stretch s e last_goes_first gs) is,
      three_parts s e gs l,
    )

pub length-pref : (level : BufferClusterLevel) (s e j i : ℕ) (gs : Glyphs) → j ≤ i → s + i < e
    → e ≤ length gs → length (after_step level (widened s e (length gs) (pref_move (e - s) j i)) gs) ≡ length gs
length-pref level s e j i gs h l m = cc (
  pref_stepped level s e j i gs h l m,
  length-moved_back (s + j) (s + i + 1) (merge level (s + j) (s + i + 1) gs) (omega arith),
  length-merge level (s + j) (s + i + 1) gs (omega arith),
)

pub length-matra : (level : BufferClusterLevel) (s e b i j : ℕ) (gs : Glyphs) → i ≤ j → s + j < e → s + b ≤ e
    → e ≤ length gs → length (after_step level (widened s e (length gs) (matra_step (e - s) b i j)) gs) ≡ length gs
length-matra level s e b i j gs h l w m =
    let n = length-moved (s + i) (s + j + 1) gs (omega arith) in
    cc (
      matra_stepped level s e b i j gs h l m,
      length-merge level (s + j) (s + b) (with_stretch (s + i) (s + j + 1) first_last gs) (omega arith),
    )

-- a left matra that moves leaves what stands before it
left_seen : (gs : Glyphs) (q : ℕ) (d : Glyph) → is_left (get_or gs q d) ≡ is_left (get_or (order_view gs) q (plain d))
left_seen gs q d = cc (get_or-map plain gs q d)

pub left_read : (level : BufferClusterLevel) (s e b i j : ℕ) (gs : Glyphs) (d : Glyph) → i ≤ j
    → s + j < e → e ≤ length gs → (q : ℕ) → q < s + i
    → is_left (get_or (after_step level (widened s e (length gs) (matra_step (e - s) b i j)) gs) q d)
    ≡ is_left (get_or gs q d)
left_read level s e b i j gs d h l m q k =
    let moved = with_stretch (s + i) (s + j + 1) first_last gs in
    let n : length (take (s + i) gs) ≡ s + i = search (arith, length-take-le) in
    cc (
      matra_stepped level s e b i j gs h l m,
      left_seen (merge level (s + j) (s + b) moved) q d,
      order_view-merge level (s + j) (s + b) moved,
      left_seen moved q d,
      get_or_append_left (take (s + i) gs) (first_last (stretch_of (s + i) (s + j + 1) gs) ++ drop (s + j + 1) gs) d q
          (omega arith),
      get_or-take (s + i) gs q d k,
    )

-- the left places from i to p, and their steps
abbrev pub lefts_from : ℕ → ℕ → Glyphs → List ℕ
lefts_from i p gs = reverse (filter (passes is_left gs) (places i p))

abbrev pub numbered_steps : ℕ → ℕ → ℕ → List ℕ → List Step
numbered_steps n e p qs = map (λ t. matra_step n e t.1 (p - t.0)) (enumerate_from 0 qs)

pub lefts_yes : (i p : ℕ) (gs : Glyphs) → i < p → passes is_left gs i ≡ true
    → lefts_from i p gs ≡ lefts_from (i + 1) p gs ++ i ∷ []
lefts_yes i p gs l holds =
    let rest = filter (passes is_left gs) (places (i + 1) p) in cc (places_first i p l, reverse-append (i ∷ []) rest)

pub lefts_no : (i p : ℕ) (gs : Glyphs) → i < p → passes is_left gs i ≡ false
    → lefts_from i p gs ≡ lefts_from (i + 1) p gs
lefts_no i p gs l fails = cc (places_first i p l)

-- the step of left matras that stay
pub stayed : (level : BufferClusterLevel) (s e b i : ℕ) (gs : Glyphs) → s ≤ e → s + b ≤ e → e ≤ length gs
    → merge level (s + i) (s + b) gs ≡ after_steps level (map (widened s e (length gs)) (merging_step (e - s) b (Some i)))
    gs
stayed level s e b i gs h v w =
    let ms = merge level (s + i) (s + b) gs in
    let n : length ms ≡ length gs = search (arith, length-merge) in
    search (
      arith,
      pick-widened s e (record { merged_first = (i, b) ∷ []; places = places 0 (e - s); merged_then = [] }) ms h
          (omega arith) (within_range 0 (e - s - 0) (e - s) (omega arith)),
      pick-all (e - s) (stretch_of s e ms) (length-stretch s e ms (omega arith)),
      three_parts s e ms h,
    )

-- a single step on a buffer
pub one_step : (old new : Buffer) (s e : ℕ) (steps : List Step) (step : Step) → steps ≡ step ∷ []
    → new ≡ record old {
      glyphs = after_step old.level (widened s e (length old.glyphs) step) old.glyphs;
      places = new.places;
    } → new
    ≡ record old {
      glyphs = after_steps old.level (map (widened s e (length old.glyphs)) steps) old.glyphs;
      places = new.places;
    }
one_step old new s e steps step only after = cc

-- a buffer in which left matras that stay merge with all up to the base
pub stayed_in : (old new : Buffer) (s e base b i : ℕ) → s ≤ e → s + b ≤ e → e ≤ length old.glyphs
    → b ≡ end_of_base base (stretch_of s e old.glyphs) → least_place (passes is_left (stretch_of s e old.glyphs)) 0 base
    ≡ Some i → new ≡ record old { glyphs = merge old.level (s + i) (s + b) old.glyphs }
    → new ≡ record old {
      glyphs = after_steps old.level
          (map (widened s e (length old.glyphs)) (staying_steps base (stretch_of s e old.glyphs))) old.glyphs;
      places = new.places;
    }
stayed_in old new s e base b i h v w end first after =
    let same : new.places ≡ old.places = cc in
    cc (stayed old.level s e b i old.glyphs h v w, length-stretch s e old.glyphs w)
