-- What the parts of the reordering of a syllable make of the buffer together.
use Rattle.std.proofs.Common.{◌≡◌, ◌==◌, ℕ, ◌+◌, ◌-◌, ◌≤◌, Bool, true, false, not, ◌&&◌, ◌||◌, inl, inr, nat_lt, if◌then◌else◌, List, [], ◌∷◌, ◌++◌, map, filter, reverse, take, drop, length, refl, ap, sym, ◌∙◌, subst, arith}
use Rattle.std.specs.List.{AllByRecursion, flat_map, list_any, range_with_len}
use Rattle.std.specs.List.Sorted.{IsPermutation}
use Rattle.std.proofs.lemmas.Bool.{cases_Bool, or_parts}
use Rattle.std.proofs.lemmas.Bool.Decides.{nat_tests}
use Rattle.std.proofs.lemmas.List.{length-map}
use Rattle.std.proofs.lemmas.List.Folds.{list_any-append}
use Rattle.std.proofs.lemmas.List.FromFn.{length-range_with_len}
use Rattle.std.proofs.lemmas.List.Sorted.{length_permutation}
use Rattle.shapers_buffer.specs.Glyphs.{Glyphs}
use Rattle.shapers_buffer.specs.declared.buffer.level.BufferClusterLevel.{BufferClusterLevel}
use Rattle.shapers_buffer.specs.Buffer.{Buffer, but_places}
use Rattle.shapers_buffer.specs.Clusters.{merge, merge_all, merged, merges, stretch_of, with_stretch}
use Rattle.shapers_buffer.specs.Glyph.{order_view, plain}
use Rattle.shapers_buffer.specs.ListingWalk.{with_listed}
use Rattle.shapers_buffer.specs.Lists.{cut_after}
use Rattle.shapers_buffer.specs.Places.{ListsEachOnce, listed, pick, placed}
use Rattle.shapers_buffer.proofs.ClusterLemmas.{length-stretch, map-stretch, three_parts}
use Rattle.shapers_buffer.proofs.Listing.{lists}
use Rattle.shapers_clusters.specs.Steps.{FitSteps, MovesMerged, old_places, after_steps, widened}
use Rattle.shapers_clusters.proofs.Merging.{order_view-merge, order_view-merge_all}
use Rattle.shapers_clusters.proofs.Moves.{within-old_places}
use Rattle.shapers_clusters.proofs.Picks.{pick-pick, pick-range, within_range}
use Rattle.shapers_clusters.proofs.Widened.{all_moves-widened, old_places-widened, order_view-widened, pick-widened}
use Rattle.shapers_syllabic.specs.Reordering.{SyllableReordered, carried}
use Rattle.shapers_syllabic.proofs.LinkedSyllables.{Stays}
use Rattle.shapers_universal.specs.Universal.{goes_front, goes_front_at, is_reordered_in_universal, leading_reph_len, reversed_first, universal_order, universal_steps}
use Rattle.shapers_universal.specs.UniversalWalk.{fronts_from, has_universal_reph, is_halant_at, may_reorder, syllable_places_in_order}
use Rattle.shapers_universal.specs.declared.ot_shaper_use.category.TheConstants.{R}
use Rattle.shapers_universal.specs.Proved.StepsAtOnce.{run_at_once}
use Rattle.shapers_universal.specs.Proved.UniversalFronts.{all_merges, fronts_from-none, fronts_from-view}
use Rattle.shapers_syllabic.proofs.NonePass.{filter-none, filter_not-none}
use Rattle.shapers_universal.specs.Proved.UniversalLists.{cut_after-concat}
use Rattle.shapers_universal.specs.Proved.UniversalPlaces.{goes_front_is, labels_any, nothing_behind, order-permuted, steps_place, stretch_at}
use Rattle.shapers_universal.specs.Proved.UniversalSteps.{universal_fits, universal_moves}
use Rattle.shapers_universal.specs.Proved.UniversalView.{picked_order, universal_order-view, universal_steps-view}

-- what a body shows that runs the steps of its syllable
map_same : {X : Type 0} (xs : List X) → map (λ x. x) xs ≡ xs
map_same [] = refl
map_same (x ∷ xs) = ap (λ ys. x ∷ ys) (map_same xs)

pub syllable_reordered : (s e : ℕ) (old new : Buffer) → s ≤ e → e ≤ length old.glyphs
    → but_places new ≡ record (but_places old) { glyphs = new.glyphs }
    → new.glyphs ≡ after_steps old.level
    (map (widened s e (length old.glyphs)) (universal_steps (stretch_of s e old.glyphs))) old.glyphs
    → SyllableReordered universal_order universal_steps s e old new
syllable_reordered s e old new h l others is =
    let gs = old.glyphs in
    let zs = stretch_of s e gs in
    let xs = order_view gs in
    let steps = universal_steps zs in
    let size = length-stretch s e gs l in
    let fits = subst (λ k. FitSteps k steps) size (universal_fits zs) in
    let picked : pick (old_places (e - s) steps) (stretch_of s e xs) ≡ universal_order (stretch_of s e xs) =
    ap (λ k. pick (old_places k steps) (stretch_of s e xs)) (sym size)
    ∙ ap (pick (old_places (length zs) steps)) (sym (map-stretch plain s e gs) ∙ ap order_view (sym (map_same zs)))
    ∙ picked_order (λ g. g) zs
    ∙ ap order_view (map_same (universal_order zs))
    ∙ sym (universal_order-view zs)
    ∙ ap universal_order (map-stretch plain s e gs) in
    record {
      others = others;
      order = ap order_view is ∙ order_view-widened old.level s e steps gs h l fits
          ∙ ap (λ ys. take s xs ++ (ys ++ drop e xs)) picked;
      moved = ap (map carried) (is
          ∙ ap (λ sts. after_steps old.level (map (widened s e (length gs)) sts) gs) (sym (universal_steps-view zs)
          ∙ ap universal_steps (map-stretch plain s e gs)));
    }

-- what the steps of a syllable lead to: its merges, and then its glyphs at their places
length-merged : (level : BufferClusterLevel) (sts : List (ℕ × ℕ)) (gs : Glyphs)
    → length (merge_all level sts gs) ≡ length gs
length-merged level sts gs = sym (length-map (merge_all level sts gs) plain)
    ∙ ap length (order_view-merge_all level sts gs) ∙ length-map gs plain

abbrev pub syllable_merges : ℕ → ℕ → ℕ → Glyphs → List (ℕ × ℕ)
syllable_merges s behind e gs = (s, behind) ∷ fronts_from s behind (stretch_of behind e gs)

pub syllable_ran : (level : BufferClusterLevel) (s e behind : ℕ) (gs : Glyphs) → s ≤ e → e ≤ length gs
    → is_reordered_in_universal (stretch_of s e gs) ≡ true → behind ≡ s + leading_reph_len (stretch_of s e gs)
    → after_steps level (map (widened s e (length gs)) (universal_steps (stretch_of s e gs))) gs
    ≡ with_stretch s e
    (λ _. pick (syllable_places_in_order s behind e gs) (merge_all level (syllable_merges s behind e gs) gs))
    (merge_all level (syllable_merges s behind e gs) gs)
syllable_ran level s e behind gs h l kind is =
    let zs = stretch_of s e gs in
    let n = length gs in
    let size = length-stretch s e gs l in
    let steps = universal_steps zs in
    let W = map (widened s e n) steps in
    let moves = subst (λ k. AllByRecursion (MovesMerged k) steps) size (universal_moves zs) in
    let fits = subst (λ k. FitSteps k steps) size (universal_fits zs) in
    let ms = merge_all level (syllable_merges s behind e gs) gs in
    let long : length ms ≡ n = length-merged level (syllable_merges s behind e gs) gs in
    let olds = old_places (e - s) steps in
    let labels = range_with_len s (e - s) in
    let within = within_range s (e - s) (length ms) (omega arith) in
    let stretch : pick labels ms ≡ stretch_of s e ms = pick-range s (e - s) ms (omega arith) in
    let order : pick olds (stretch_of s e ms) ≡ pick (syllable_places_in_order s behind e gs) ms =
    ap (pick olds) (sym stretch) ∙ pick-pick olds labels ms within
    ∙ ap (λ ps. pick ps ms) (steps_place s e behind gs h l kind is) in
    run_at_once level W gs (all_moves-widened s e n steps h l moves)
    ∙ ap (λ sts. pick (old_places n W) (merge_all level sts gs)) (all_merges s e behind gs h l kind is)
    ∙ ap (λ ps. pick ps ms) (old_places-widened s e n steps h l fits)
    ∙ ap (λ k. pick (range_with_len 0 s ++ (map (λ p. s + p) olds ++ range_with_len e (k - e))) ms) (sym long)
    ∙ pick-widened s e (record { merged_first = []; places = olds; merged_then = [] }) ms h (omega arith)
    (within-old_places (e - s) steps)
    ∙ ap (λ ys. take s ms ++ (ys ++ drop e ms)) order

-- the parts of the code
pub record Parts (s e behind : ℕ) (b0 b1 b2 b3 : Buffer) : Type 0 where
  pub in_order : s ≤ e
  pub in_range : e ≤ length b0.glyphs
  pub listed : b1 ≡ record b0 { places = with_listed s (syllable_places_in_order s behind e b0.glyphs) b0.places }
  pub joined : b2 ≡ record b1 { glyphs = merge b1.level s behind b1.glyphs }
  pub merged : b3
      ≡ record b2 { glyphs = merge_all b2.level (fronts_from s behind (stretch_of behind e b2.glyphs)) b2.glyphs }

pub record PartsMake (s e behind : ℕ) (b0 b3 : Buffer) : Type 0 where
  pub is : b3 ≡ record b0 {
    glyphs = merge_all b0.level (syllable_merges s behind e b0.glyphs) b0.glyphs;
    places =
        b3.places;
  }
  pub reads : listed s e b3.places ≡ syllable_places_in_order s behind e b0.glyphs
  pub as_long : length b3.glyphs ≡ length b0.glyphs

pub parts_make : (s e behind : ℕ) (b0 b1 b2 b3 : Buffer) → Parts s e behind b0 b1 b2 b3 → PartsMake s e behind b0 b3
parts_make s e behind b0 b1 b2 b3 p =
    let gs = b0.glyphs in
    let order = syllable_places_in_order s behind e gs in
    let long : length order ≡ e - s = length_permutation (range_with_len s (e - s)) order (order-permuted s behind e gs)
    ∙ length-range_with_len s (e - s) in
    let ps = with_listed s order b0.places in
    let hs = merge b0.level s behind gs in
    let two : b2 ≡ record b0 { glyphs = hs; places = ps } =
    p.joined ∙ ap (λ (x : Buffer). let y : Buffer = record x { glyphs = merge x.level s behind x.glyphs } in y)
    p.listed in
    let three : b3
    ≡ record b0 { glyphs = merge_all b0.level (fronts_from s behind (stretch_of behind e hs)) hs; places = ps }
    = p.merged ∙ ap
    (λ (x : Buffer). let y : Buffer = record x
    { glyphs = merge_all x.level (fronts_from s behind (stretch_of behind e x.glyphs)) x.glyphs } in y) two in
    let same : fronts_from s behind (stretch_of behind e hs) ≡ fronts_from s behind (stretch_of behind e gs) =
    sym (fronts_from-view s behind (stretch_of behind e hs))
    ∙ ap (fronts_from s behind) (map-stretch plain behind e hs
    ∙ ap (stretch_of behind e) (order_view-merge b0.level s behind gs) ∙ sym (map-stretch plain behind e gs))
    ∙ fronts_from-view s behind (stretch_of behind e gs) in
    let all : b3 ≡ record b0 { glyphs = merge_all b0.level (syllable_merges s behind e gs) gs; places = ps } =
    three ∙ ap (λ sts. let y : Buffer = record b0 { glyphs = merge_all b0.level sts hs; places = ps } in y)
    same in
    let places : b3.places ≡ ps = ap (λ (x : Buffer). x.places) all in
    record {
      is = all ∙ ap
          (λ qs. let y : Buffer = record b0
          { glyphs = merge_all b0.level (syllable_merges s behind e gs) gs; places = qs } in y) (sym places);
      reads = ap (listed s e) places ∙ lists s e order b0.places long;
      as_long = ap (λ (x : Buffer). length x.glyphs) all ∙ length-merged b0.level (syllable_merges s behind e gs) gs;
    }

pub parts_permute : (s e behind : ℕ) (b0 b3 : Buffer) → PartsMake s e behind b0 b3 → ListsEachOnce s e b3.places
parts_permute s e behind b0 b3 m =
    subst (IsPermutation (range_with_len s (e - s))) (sym m.reads) (order-permuted s behind e b0.glyphs)

pub parts_reordered : (s e behind : ℕ) (b0 b3 b4 : Buffer) → s ≤ e → e ≤ length b0.glyphs
    → is_reordered_in_universal (stretch_of s e b0.glyphs) ≡ true → behind ≡ s + leading_reph_len (stretch_of s e b0.glyphs)
    → PartsMake s e behind b0 b3 → b4 ≡ record b3 { glyphs = placed s e b3.places b3.glyphs }
    → SyllableReordered universal_order universal_steps s e b0 b4
parts_reordered s e behind b0 b3 b4 h l kind is m done =
    let gs = b0.glyphs in
    let ms = merge_all b0.level (syllable_merges s behind e gs) gs in
    let there : b3.glyphs ≡ ms = ap (λ (x : Buffer). x.glyphs) m.is in
    let glyphs : b4.glyphs ≡ placed s e b3.places b3.glyphs = ap (λ (x : Buffer). x.glyphs) done in
    syllable_reordered s e b0 b4 h l
    (ap but_places done
    ∙ ap (λ (x : Buffer). let y : Buffer = record (but_places x) { glyphs = placed s e b3.places b3.glyphs } in y)
    m.is ∙ ap (λ xs. let y : Buffer = record (but_places b0) { glyphs = xs } in y) (sym glyphs))
    (glyphs ∙ ap (λ xs. with_stretch s e (λ _. pick (listed s e b3.places) xs) xs) there
    ∙ ap (λ ps. with_stretch s e (λ _. pick ps ms) ms) m.reads
    ∙ sym (syllable_ran b0.level s e behind gs h l kind is))

-- a syllable in which nothing moves
pub still_pieces : {X : Type 0} (t : X → Bool) (qs : List (List X)) → list_any t (flat_map (λ q. q) qs) ≡ false
    → flat_map (reversed_first t) qs ≡ flat_map (λ q. q) qs
still_pieces t [] h = refl
still_pieces t (q ∷ qs) h =
    let parts : (list_any t q ≡ false) × (list_any t (flat_map (λ p. p) qs) ≡ false) =
    or_parts (list_any t q) (list_any t (flat_map (λ p. p) qs))
    (sym (list_any-append t q (flat_map (λ p. p) qs)) ∙ h) in
    ap (λ ys. (reverse ys ++ filter (λ x. not (t x)) q) ++ flat_map (reversed_first t) qs) (filter-none t q parts.0)
    ∙ ap (λ ys. ys ++ flat_map (reversed_first t) qs) (filter_not-none t q parts.0)
    ∙ ap (λ ys. q ++ ys) (still_pieces t qs parts.1)

still_order : (s e : ℕ) (gs : Glyphs) → e ≤ length gs → list_any goes_front (stretch_of s e gs) ≡ false
    → syllable_places_in_order s s e gs ≡ range_with_len s (e - s)
still_order s e gs l none =
    let all = range_with_len s (e - s) in
    let qs = cut_after (is_halant_at gs) all in
    let whole : flat_map (λ q. q) qs ≡ all = cut_after-concat (is_halant_at gs) all in
    let calm : list_any (goes_front_at gs) all ≡ false =
    labels_any goes_front (goes_front_at gs) gs (goes_front_is gs) all
    ∙ ap (list_any goes_front) (sym (stretch_at s e gs l)) ∙ none in
    ap (λ xs. flat_map (reversed_first (goes_front_at gs)) (cut_after (is_halant_at gs) xs)) (nothing_behind s e)
    ∙ still_pieces (goes_front_at gs) qs (ap (list_any (goes_front_at gs)) whole ∙ calm)
    ∙ whole

pub no_reph : (gs : Glyphs) → has_universal_reph gs ≡ false → leading_reph_len gs ≡ 0
no_reph [] h = refl
no_reph (g ∷ gs) h = rw h refl

pub merge_nothing : (level : BufferClusterLevel) (s : ℕ) (gs : Glyphs) → merge level s s gs ≡ gs
merge_nothing level s gs =
    let few : nat_lt (s - s) 2 ≡ true = grind (arith, nat_tests) in
    rw few (elim (merges level) as (λ b. (if b && false then merged s s gs else gs) ≡ gs)
    [ true ↦ refl | false ↦ refl ])

still_ran : (level : BufferClusterLevel) (s e : ℕ) (gs : Glyphs) → s ≤ e → e ≤ length gs
    → is_reordered_in_universal (stretch_of s e gs) ≡ true → has_universal_reph (stretch_of s e gs) ≡ false
    → list_any goes_front (stretch_of s e gs) ≡ false
    → gs ≡ after_steps level (map (widened s e (length gs)) (universal_steps (stretch_of s e gs))) gs
still_ran level s e gs h l kind reph none =
    let is : s ≡ s + leading_reph_len (stretch_of s e gs) = omega (arith, no_reph (stretch_of s e gs) reph) in
    let nothing : merge_all level (syllable_merges s s e gs) gs ≡ gs =
    ap (λ sts. merge_all level sts (merge level s s gs)) (fronts_from-none s s (stretch_of s e gs) none)
    ∙ merge_nothing level s gs in
    sym (syllable_ran level s e s gs h l kind is
    ∙ ap (λ ms. with_stretch s e (λ _. pick (syllable_places_in_order s s e gs) ms) ms) nothing
    ∙ ap (λ ps. with_stretch s e (λ _. pick ps gs) gs) (still_order s e gs l none)
    ∙ ap (λ ys. take s gs ++ (ys ++ drop e gs)) (pick-range s (e - s) gs (omega arith))
    ∙ three_parts s e gs h)

other_kind : (level : BufferClusterLevel) (s e : ℕ) (gs : Glyphs)
    → is_reordered_in_universal (stretch_of s e gs) ≡ false
    → gs ≡ after_steps level (map (widened s e (length gs)) (universal_steps (stretch_of s e gs))) gs
other_kind level s e gs kind = rw kind refl

pub still_reordered : (s e : ℕ) (b : Buffer) → s ≤ e → e ≤ length b.glyphs
    → (is_reordered_in_universal (stretch_of s e b.glyphs)
    && (has_universal_reph (stretch_of s e b.glyphs) || list_any goes_front (stretch_of s e b.glyphs))) ≡ false
    → SyllableReordered universal_order universal_steps s e b b
still_reordered s e b h l still =
    let zs = stretch_of s e b.glyphs in
    syllable_reordered s e b b h l refl (elim (cases_Bool (is_reordered_in_universal zs)) [
      | inr other ↦ other_kind b.level s e b.glyphs other
      | inl kind ↦
          let none : (has_universal_reph zs || list_any goes_front zs) ≡ false =
          ap (λ c. c && (has_universal_reph zs || list_any goes_front zs)) (sym kind) ∙ still in
          let parts : (has_universal_reph zs ≡ false) × (list_any goes_front zs ≡ false) =
          or_parts (has_universal_reph zs) (list_any goes_front zs) none in
          still_ran b.level s e b.glyphs h l kind parts.0 parts.1
    ])

-- so where nothing may change it
not_front : (gs : Glyphs) → list_any may_reorder gs ≡ false
    → (has_universal_reph gs || list_any goes_front gs) ≡ false
not_front [] none = refl
not_front (g ∷ gs) none =
    let parts : ((g.category == R || goes_front g) ≡ false) × (list_any may_reorder gs ≡ false) =
    or_parts (may_reorder g) (list_any may_reorder gs) none in
    let first : ((g.category == R) ≡ false) × (goes_front g ≡ false) =
    or_parts (g.category == R) (goes_front g) parts.0 in
    let rest = no_front gs parts.1 in
    rw (first.0, first.1, rest) refl
  where
    no_front : (gs : Glyphs) → list_any may_reorder gs ≡ false → list_any goes_front gs ≡ false
    no_front [] none = refl
    no_front (g ∷ gs) none =
        let parts : ((g.category == R || goes_front g) ≡ false) × (list_any may_reorder gs ≡ false) =
        or_parts (may_reorder g) (list_any may_reorder gs) none in
        let first : ((g.category == R) ≡ false) × (goes_front g ≡ false) =
        or_parts (g.category == R) (goes_front g) parts.0 in
        rw (first.1, no_front gs parts.1) refl

pub universal_stays : Stays may_reorder (SyllableReordered universal_order universal_steps)
universal_stays s e b some within none =
    let zs = stretch_of s e b.glyphs in
    still_reordered s e b (omega arith) within
    (rw (not_front zs none) (elim (is_reordered_in_universal zs) as (λ k. (k && false) ≡ false)
    [ true ↦ refl | false ↦ refl ]))
