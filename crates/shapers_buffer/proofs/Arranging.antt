-- What is read and written through a placement.
use Rattle.std.proofs.Common.{◌≡◌, ◌≢◌, ℕ, ◌+◌, ◌-◌, ◌<◌, ◌≤◌, ◌⊎◌, inl, inr, zero, suc, eqb, Bool, true, false, List, [], ◌∷◌, ◌++◌, length, map, min, take, drop, get_or, set, eq-eqb, refl, sym, ap, subst, ◌∙◌, arith, length-append, length-set, get_or-set_same, get_or-set_other}
use Rattle.std.specs.List.{All, AllByRecursion, AllPairs, prefix_len, range_with_len, suffix_len}
use Rattle.std.specs.Prelude.{fold, nat_le, nat_lt, not, ◌&&◌, if◌then◌else◌}
use Rattle.std.specs.List.Sorted.{IsPermutation}
use Rattle.std.proofs.Math.Seq.{take-length}
use Rattle.std.proofs.lemmas.Bool.{and_parts, cases_lt, cases_eq, le-leb, ne_eqb}
use Rattle.std.proofs.lemmas.Bool.Decides.{Decides-eqb, nat_tests}
use Rattle.std.proofs.lemmas.List.{append_assoc, drop_at, drop_more, take_at, take_more, take_more_set, ext_get_or, length-map, map-append, set_at, get_or_append_left, get_or-append_right, get_or-take, get_or-drop, length-drop, length-take-le, take-append-drop}
use Rattle.std.proofs.lemmas.List.FromFn.{length-range_with_len, get_or-range_with_len, length-map-range_with_len, get_or-map-range_with_len}
use Rattle.std.proofs.lemmas.List.Sorted.{All-permutation, length_permutation}
use Rattle.std.proofs.lemmas.Map.Keys.{IsDistinct-IsPermutation}
use Rattle.std.proofs.lemmas.Map.Made.{AllPairs-from_IsDistinct, IsDistinct-from_AllPairs}
use Rattle.shapers_buffer.specs.Buffer.{Buffer}
use Rattle.shapers_buffer.specs.Clusters.{has_cluster, high, in_cluster, last_cluster, least, low, merge, merged, merges, stretch_of, with_stretch}
use Rattle.shapers_buffer.specs.declared.buffer.level.BufferClusterLevel.{BufferClusterLevel}
use Rattle.shapers_buffer.specs.ClusterRanges.{none_below}
use Rattle.shapers_buffer.specs.RangeWalk.{equal_before, equal_behind}
use Rattle.shapers_buffer.proofs.RunLemmas.{grown_merged}
use Rattle.shapers_buffer.specs.Glyph.{clusters, default_glyph}
use Rattle.shapers_buffer.specs.Glyphs.{Glyph, Glyphs}
use Rattle.shapers_buffer.specs.Places.{ListsEachOnce, PlacesEachOnce, brought_forward, listed, pick, place_at, placed, placed_by, places_of, without_last_zeros}
use Rattle.shapers_buffer.specs.Placements.{MayArrange, forward_place, is_still, moves_nothing, old_place, old_place_by_all, placed_by_all}
use Rattle.shapers_buffer.specs.declared.buffer.placement.Placement.{Placement}
use Rattle.shapers_buffer.specs.declared.buffer.placements.Placements.{Placements}
use Rattle.shapers_buffer.specs.declared.buffer.placement.Placement.TheVariants.{Forward, Listed, Stays}
use Rattle.shapers_buffer.proofs.ClusterLemmas.{get_or-stretch, last-read, length-stretch, three_parts}
use Rattle.shapers_buffer.proofs.ListLaws.{suffix_len_no, suffix_len_yes}
use Rattle.shapers_buffer.proofs.Picks.{get_or-pick, length-pick}
use Rattle.shapers_buffer.proofs.PlaceLaws.{place_at-without_last_zeros}
use Rattle.shapers_buffer.proofs.Placements.{forward_inside, placed_forward, placed_stays, with_stretch_at}

-- FORWARD. What is read where a stretch comes forward
brought_reads : {X : Type 0} (d : X) (to from count : ℕ) (xs : List X) (i : ℕ) → to ≤ from → from + count ≤ length xs
    → i < length xs → get_or (brought_forward to from count xs) i d ≡ get_or xs (forward_place to from count i) d
brought_reads d to from count xs i h l within =
    let a = take to xs in
    let c = stretch_of from (from + count) xs in
    let b = stretch_of to from xs in
    let rest = drop (from + count) xs in
    let la : length a ≡ to = length-take-le to xs (omega arith) in
    let lc : length c ≡ count = length-stretch from (from + count) xs l ∙ omega arith in
    let lb : length b ≡ from - to = length-stretch to from xs (omega arith) in
    elim (cases_lt i to) [
      | inl low ↦ search (arith, get_or_append_left, get_or-take)
      | inr over ↦ elim (cases_lt i (to + count)) [
        | inl low ↦ search (arith, get_or-append_right, get_or_append_left, get_or-stretch)
        | inr past ↦ elim (cases_lt i (from + count)) [
          | inl low ↦ search (arith, get_or-append_right, get_or_append_left, get_or-stretch)
          | inr behind ↦ search (arith, get_or-append_right, get_or-drop)
        ]
      ]
    ]

forward_within : (to from count n i : ℕ) → to ≤ from → from + count ≤ n → i < n → forward_place to from count i < n
forward_within = grind (arith, nat_tests)

forward_once : (to from count i j : ℕ) → to ≤ from → forward_place to from count i ≡ forward_place to from count j → i ≡ j
forward_once = grind (arith, nat_tests)

-- PLACES that are each from s to e, once
each_rec : {X : Type 0} (P : X → Type 0) (xs : List X) → All P xs → AllByRecursion P xs
each_rec P [] h = tt
each_rec P (x ∷ xs) h = (h 0 x (omega arith), each_rec P xs (λ k d l. h (suc k) d (omega arith)))

eqb_flips : (a b : ℕ) → eqb a b ≡ eqb b a
eqb_flips = grind arith

differ_in_range : (s k : ℕ) → AllPairs (λ a b. a ≢ b) (range_with_len s k)
differ_in_range s k i j d l m e =
    let n = length-range_with_len s k in
    let a : get_or (range_with_len s k) i d ≡ s + i = search (arith, get_or-range_with_len) in
    let b : get_or (range_with_len s k) j d ≡ s + j = search (arith, get_or-range_with_len) in
    omega arith

differ : (s k : ℕ) (ps : List ℕ) → IsPermutation (range_with_len s k) ps → AllPairs (λ a b. a ≢ b) ps
differ s k ps perm =
    AllPairs-from_IsDistinct Decides-eqb ps
    (IsDistinct-IsPermutation eqb eqb_flips (range_with_len s k) ps perm
    (IsDistinct-from_AllPairs Decides-eqb (range_with_len s k) (differ_in_range s k)))

pub one_place : (s k : ℕ) (ps : List ℕ) → IsPermutation (range_with_len s k) ps → (i j : ℕ) → i < k → j < k
    → get_or ps i 0 ≡ get_or ps j 0 → i ≡ j
one_place s k ps perm i j l m same =
    let n = length_permutation (range_with_len s k) ps perm ∙ length-range_with_len s k in
    let apart = differ s k ps perm in
    elim (cases_lt i j) [
      | inl low ↦ absurd (apart i j 0 low (omega arith) same)
      | inr over ↦ elim (cases_lt j i) [
        | inl low ↦ absurd (apart j i 0 low (omega arith) (sym same))
        | inr under ↦ omega arith
      ]
    ]

pub each_inside : (s k : ℕ) (ps : List ℕ) → IsPermutation (range_with_len s k) ps → All (λ p. (s ≤ p) × (p < s + k)) ps
each_inside s k ps perm =
    All-permutation (λ p. (s ≤ p) × (p < s + k)) (range_with_len s k) ps perm (λ i d l.
    search (arith, get_or-range_with_len, length-range_with_len))

pub as_many : (s k : ℕ) (ps : List ℕ) → IsPermutation (range_with_len s k) ps → length ps ≡ k
as_many = search (arith, length_permutation, length-range_with_len)

pub all_below : (s k n : ℕ) (ps : List ℕ) → IsPermutation (range_with_len s k) ps → s + k ≤ n
    → AllByRecursion (λ p. p < n) ps
all_below s k n ps perm l =
    each_rec (λ p. p < n) ps (λ i d m. omega (arith, (each_inside s k ps perm i d m).1))

-- ONE PLACEMENT. How long the list is, and what stands where
pub placed_long : {X : Type 0} (p : Placement) (s e : ℕ) (places : List ℕ) (xs : List X) → s ≤ e → e ≤ length xs
    → PlacesEachOnce p s e places → length (placed_by p s e places xs) ≡ length xs
placed_long p s e places xs h l each =
    let ps = places_of p s e places in
    let n : length (pick ps xs) ≡ e - s = length-pick ps xs (all_below s (e - s) (length xs) ps each (omega arith))
    ∙ as_many s (e - s) ps each in
    search (arith, length-append, length-take-le, length-drop)

-- where the list says it, and elsewhere
record Within (s e : ℕ) (places : List ℕ) (i : ℕ) : Type 0 where
  pub from : s ≤ i
  pub to : i < e
  pub there : old_place Listed s e places i ≡ get_or (listed s e places) (i - s) 0

listed_there : (s e : ℕ) (places : List ℕ) (i : ℕ)
    → ((i < s) ⊎ (e ≤ i)) × (old_place Listed s e places i ≡ i) ⊎ Within s e places i
listed_there s e places i = elim (cases_lt i s) [
  | inl low ↦
      let no : nat_le s i ≡ false = grind (arith, nat_tests) in
      inl (inl low, rw no refl)
  | inr over ↦
      let from : nat_le s i ≡ true = grind (arith, nat_tests) in
      elim (cases_lt i e) [
        | inl low ↦
            let to : nat_lt i e ≡ true = grind (arith, nat_tests) in
            let there : get_or (listed s e places) (i - s) 0 ≡ place_at places i = search (arith, get_or-map-range_with_len) in
            inr (record { from = over; to = low; there = rw (from, to) (sym there) })
        | inr behind ↦
            let to : nat_lt i e ≡ false = grind (arith, nat_tests) in
            inl (inr behind, rw (from, to) refl)
      ]
]

reads_listed : {X : Type 0} (d : X) (s e : ℕ) (places : List ℕ) (xs : List X) (i : ℕ) → s ≤ e → e ≤ length xs
    → ListsEachOnce s e places → i < length xs → get_or (placed s e places xs) i d
    ≡ get_or xs (old_place Listed s e places i) d
reads_listed d s e places xs i h l each within =
    let ps = listed s e places in
    let inside = all_below s (e - s) (length xs) ps each (omega arith) in
    let long : length ps ≡ e - s = as_many s (e - s) ps each in
    let n : length (pick ps xs) ≡ e - s = length-pick ps xs inside ∙ long in
    let a : length (take s xs) ≡ s = length-take-le s xs (omega arith) in
    elim (listed_there s e places i) [
      | inl out ↦
          let outside : get_or (placed s e places xs) i d ≡ get_or xs i d = elim out.0 [
            | inl low ↦ search (arith, get_or_append_left, get_or-take)
            | inr behind ↦ search (arith, get_or-append_right, get_or-drop)
          ] in
          outside ∙ ap (λ q. get_or xs q d) (sym out.1)
      | inr w ↦
          let from = w.from in
          let to = w.to in
          let read = get_or-pick d ps xs inside (i - s) (omega arith) ∙ ap (λ q. get_or xs q d) (sym w.there) in
          search (arith, get_or-append_right, get_or_append_left)
    ]

pub placed_reads : {X : Type 0} (d : X) (p : Placement) (s e : ℕ) (places : List ℕ) (xs : List X) (i : ℕ) → s ≤ e
    → e ≤ length xs → PlacesEachOnce p s e places → i < length xs → get_or (placed_by p s e places xs) i d
    ≡ get_or xs (old_place p s e places i) d
placed_reads d Stays s e places xs i h l each within = ap (λ ys. get_or ys i d) (placed_stays s e places xs h l)
placed_reads d (Forward to from count) s e places xs i h l each within =
    let inside = forward_inside to from count s e places h each in
    ap (λ ys. get_or ys i d) (placed_forward to from count s e places xs inside.0 inside.1 inside.2 l)
    ∙ brought_reads d to from count xs i inside.1 (omega arith) within
placed_reads d Listed s e places xs i h l each within = reads_listed d s e places xs i h l each within

pub placed_within : (p : Placement) (s e n : ℕ) (places : List ℕ) (i : ℕ) → s ≤ e → e ≤ n
    → PlacesEachOnce p s e places → i < n → old_place p s e places i < n
placed_within Stays s e n places i h l each within = within
placed_within (Forward to from count) s e n places i h l each within =
    let inside = forward_inside to from count s e places h each in
    forward_within to from count n i inside.1 (omega arith) within
placed_within Listed s e n places i h l each within = elim (listed_there s e places i) [
  | inl out ↦ subst (λ q. q < n) (sym out.1) within
  | inr w ↦
      let ps = listed s e places in
      let from = w.from in
      let to = w.to in
      let long = as_many s (e - s) ps each in
      let inside = each_inside s (e - s) ps each (i - s) 0 (omega arith) in
      subst (λ q. q < n) (sym w.there) (omega arith)
]

apart : (s e i q : ℕ) → ((i < s) ⊎ (e ≤ i)) → i ≡ q → (s ≤ q) × (q < s + (e - s)) → ⊥
apart s e i q (inl low) same inside = omega arith
apart s e i q (inr behind) same inside = omega arith

pub placed_once : (p : Placement) (s e n : ℕ) (places : List ℕ) (i j : ℕ) → s ≤ e → e ≤ n
    → PlacesEachOnce p s e places → i < n → j < n → old_place p s e places i ≡ old_place p s e places j → i ≡ j
placed_once Stays s e n places i j h l each a b same = same
placed_once (Forward to from count) s e n places i j h l each a b same =
    let inside = forward_inside to from count s e places h each in
    forward_once to from count i j inside.1 same
placed_once Listed s e n places i j h l each a b same =
    let ps = listed s e places in
    let long = as_many s (e - s) ps each in
    elim (listed_there s e places i) [
      | inl out ↦ elim (listed_there s e places j) [
        | inl off ↦ sym out.1 ∙ same ∙ off.1
        | inr v ↦ absurd (apart s e _ _ out.0 (sym out.1 ∙ same ∙ v.there)
            (each_inside s (e - s) ps each (j - s) 0 (omega (arith, v.from, v.to))))
      ]
      | inr w ↦ elim (listed_there s e places j) [
        | inl off ↦ absurd (apart s e _ _ off.0 (sym off.1 ∙ sym same ∙ w.there)
            (each_inside s (e - s) ps each (i - s) 0 (omega (arith, w.from, w.to))))
        | inr v ↦
            let k = one_place s (e - s) ps each (i - s) (j - s) (omega (arith, w.from, w.to)) (omega (arith, v.from, v.to))
            (sym w.there ∙ same ∙ v.there) in
            omega (arith, w.from, v.from)
      ]
    ]

-- ALL PLACEMENTS, one after another
pub all_long : {X : Type 0} (ps : Placements) (s e : ℕ) (places : List ℕ) (xs : List X)
    → MayArrange ps s e (length xs) places → length (placed_by_all ps s e places xs) ≡ length xs
all_long ps s e places xs a =
    let ys = placed_by ps.first s e places xs in
    let zs = placed_by ps.second s e places ys in
    let l1 = placed_long ps.first s e places xs a.in_order a.in_range a.first in
    let l2 = placed_long ps.second s e places ys a.in_order (omega (arith, a.in_range)) a.second in
    placed_long ps.third s e places zs a.in_order (omega (arith, a.in_range)) a.third ∙ l2 ∙ l1

pub all_reads : {X : Type 0} (d : X) (ps : Placements) (s e : ℕ) (places : List ℕ) (xs : List X) (i : ℕ)
    → MayArrange ps s e (length xs) places → i < length xs → get_or (placed_by_all ps s e places xs) i d
    ≡ get_or xs (old_place_by_all ps s e places i) d
all_reads d ps s e places xs i a within =
    let n = length xs in
    let ys = placed_by ps.first s e places xs in
    let zs = placed_by ps.second s e places ys in
    let l1 = placed_long ps.first s e places xs a.in_order a.in_range a.first in
    let ly : e ≤ length ys = omega (arith, a.in_range) in
    let l2 = placed_long ps.second s e places ys a.in_order ly a.second in
    let lz : e ≤ length zs = omega (arith, a.in_range) in
    let i3 = old_place ps.third s e places i in
    let w3 = placed_within ps.third s e n places i a.in_order a.in_range a.third within in
    let i2 = old_place ps.second s e places i3 in
    let w2 = placed_within ps.second s e n places i3 a.in_order a.in_range a.second w3 in
    placed_reads d ps.third s e places zs i a.in_order lz a.third (omega arith)
    ∙ placed_reads d ps.second s e places ys i3 a.in_order ly a.second (omega arith)
    ∙ placed_reads d ps.first s e places xs i2 a.in_order a.in_range a.first w2

pub all_within : (ps : Placements) (s e n : ℕ) (places : List ℕ) (i : ℕ) → MayArrange ps s e n places → i < n
    → old_place_by_all ps s e places i < n
all_within ps s e n places i a within =
    placed_within ps.first s e n places _ a.in_order a.in_range a.first
    (placed_within ps.second s e n places _ a.in_order a.in_range a.second
    (placed_within ps.third s e n places i a.in_order a.in_range a.third within))

pub all_once : (ps : Placements) (s e n : ℕ) (places : List ℕ) (i j : ℕ) → MayArrange ps s e n places → i < n → j < n
    → old_place_by_all ps s e places i ≡ old_place_by_all ps s e places j → i ≡ j
all_once ps s e n places i j a l m same =
    let h = a.in_order in
    let r = a.in_range in
    let i3 = placed_within ps.third s e n places i h r a.third l in
    let j3 = placed_within ps.third s e n places j h r a.third m in
    let i2 = placed_within ps.second s e n places _ h r a.second i3 in
    let j2 = placed_within ps.second s e n places _ h r a.second j3 in
    placed_once ps.third s e n places i j h r a.third l m
    (placed_once ps.second s e n places _ _ h r a.second i3 j3
    (placed_once ps.first s e n places _ _ h r a.first i2 j2 same))

-- what is written where a glyph stands now
pub all_written : {X : Type 0} (d v : X) (ps : Placements) (s e : ℕ) (places : List ℕ) (xs : List X) (i : ℕ)
    → MayArrange ps s e (length xs) places → i < length xs
    → placed_by_all ps s e places (set xs (old_place_by_all ps s e places i) v) ≡ set (placed_by_all ps s e places xs) i v
all_written {X} d v ps s e places xs i a within =
    let n = length xs in
    let q = old_place_by_all ps s e places i in
    let hs = set xs q v in
    let lh : length hs ≡ n = length-set xs q v in
    let b : MayArrange ps s e (length hs) places = subst (λ m. MayArrange ps s e m places) (sym lh) a in
    let ys = placed_by_all ps s e places xs in
    let ly : length ys ≡ n = all_long ps s e places xs a in
    let lb : length (placed_by_all ps s e places hs) ≡ n = all_long ps s e places hs b ∙ lh in
    let inside = all_within ps s e n places i a within in
    ext_get_or d (placed_by_all ps s e places hs) (set ys i v) (lb ∙ sym (length-set ys i v ∙ ly)) (λ k l.
    let lk : k < n = omega arith in
    let read : get_or (placed_by_all ps s e places hs) k d ≡ get_or hs (old_place_by_all ps s e places k) d =
    all_reads d ps s e places hs k b (omega arith) in
    elim (cases_eq k i) [
      | inl same ↦ read ∙ ap (λ j. get_or hs (old_place_by_all ps s e places j) d) same
          ∙ get_or-set_same xs q v d inside ∙ sym (get_or-set_same ys i v d (omega arith))
          ∙ ap (λ j. get_or (set ys i v) j d) (sym same)
      | inr other ↦ read
          ∙ get_or-set_other xs q (old_place_by_all ps s e places k) v d (λ r. other
          (all_once ps s e n places k i a lk within r))
          ∙ sym (all_reads d ps s e places xs k a lk) ∙ sym (get_or-set_other ys i k v d other)
    ])

-- THE LIST as the buffer keeps it, with zeros at its end
listed_raw : (s e : ℕ) (ps : List ℕ) → listed s e (without_last_zeros ps) ≡ listed s e ps
listed_raw s e ps =
    let a = length-map-range_with_len (place_at (without_last_zeros ps)) s (e - s) in
    let b = length-map-range_with_len (place_at ps) s (e - s) in
    ext_get_or 0 (listed s e (without_last_zeros ps)) (listed s e ps) (a ∙ sym b) (λ k l.
    search (arith, get_or-map-range_with_len, place_at-without_last_zeros))

places_raw : (p : Placement) (s e : ℕ) (ps : List ℕ) → places_of p s e (without_last_zeros ps) ≡ places_of p s e ps
places_raw Stays s e ps = refl
places_raw (Forward to from count) s e ps = refl
places_raw Listed s e ps = listed_raw s e ps

pub each_raw : (p : Placement) (s e : ℕ) (places ps : List ℕ) → places ≡ without_last_zeros ps
    → PlacesEachOnce p s e places → PlacesEachOnce p s e ps
each_raw p s e places ps same each =
    subst (IsPermutation (range_with_len s (e - s))) (ap (places_of p s e) same ∙ places_raw p s e ps) each

old_place_raw : (p : Placement) (s e : ℕ) (ps : List ℕ) (i : ℕ) → old_place p s e (without_last_zeros ps) i
    ≡ old_place p s e ps i
old_place_raw Stays s e ps i = refl
old_place_raw (Forward to from count) s e ps i = refl
old_place_raw Listed s e ps i =
    ap (λ q. if nat_le s i && nat_lt i e then q else i) (place_at-without_last_zeros ps i)

pub all_raw : (ps : Placements) (s e : ℕ) (places raw : List ℕ) (i : ℕ) → places ≡ without_last_zeros raw
    → old_place_by_all ps s e places i ≡ old_place_by_all ps s e raw i
all_raw ps s e places raw i same =
    ap (λ qs. old_place_by_all ps s e qs i) same
    ∙ old_place_raw ps.first s e raw _ ∙ ap (old_place ps.first s e raw) (old_place_raw ps.second s e raw _
    ∙ ap (old_place ps.second s e raw) (old_place_raw ps.third s e raw i))

-- CHANGES. One element of a list, and one more of a stretch
one_changed : {X : Type 0} (d : X) (f : X → X) (q : ℕ) (xs : List X) → q < length xs
    → with_stretch q (q + 1) (map f) xs ≡ set xs q (f (get_or xs q d))
one_changed d f q xs within =
    let x = get_or xs q d in
    let a = take q xs in
    let c = drop (q + 1) xs in
    let la : length a ≡ q = length-take-le q xs (omega arith) in
    let whole : a ++ (x ∷ c) ≡ xs = ap (λ ys. a ++ ys) (sym (drop_more xs q d within)) ∙ take-append-drop q xs in
    ap (with_stretch q (q + 1) (map f)) (sym whole) ∙ with_stretch_at (map f) a (x ∷ []) c q (q + 1) la (omega arith)
    ∙ sym (set_at a x c (f x) q la) ∙ ap (λ ys. set ys q (f x)) whole

one_more : {X : Type 0} (d : X) (f : X → X) (s i : ℕ) (xs : List X) → s ≤ i → i < length xs
    → with_stretch i (i + 1) (map f) (with_stretch s i (map f) xs) ≡ with_stretch s (i + 1) (map f) xs
one_more d f s i xs h within =
    let x = get_or xs i d in
    let b = stretch_of s i xs in
    let a = take s xs in
    let c = drop (i + 1) xs in
    let la : length a ≡ s = length-take-le s xs (omega arith) in
    let lb : length b ≡ i - s = length-stretch s i xs (omega arith) in
    let lm : length (map f b) ≡ i - s = length-map b f ∙ lb in
    let whole : a ++ ((b ++ x ∷ []) ++ c) ≡ xs =
    ap (λ ys. a ++ ys) (append_assoc b (x ∷ []) c) ∙ ap (λ ys. a ++ (b ++ ys)) (sym (drop_more xs i d within))
    ∙ three_parts s i xs h in
    let first : with_stretch s i (map f) xs ≡ (a ++ map f b) ++ (x ∷ [] ++ c) =
    ap (λ ys. a ++ (map f b ++ ys)) (drop_more xs i d within) ∙ sym (append_assoc a (map f b) (x ∷ c)) in
    let last : s + length (b ++ x ∷ []) ≡ i + 1 = omega (arith, length-append b (x ∷ []), lb) in
    let front : length (a ++ map f b) ≡ i = length-append a (map f b) ∙ omega (arith, la, lm) in
    ap (with_stretch i (i + 1) (map f)) first
    ∙ with_stretch_at (map f) (a ++ map f b) (x ∷ []) c i (i + 1) front (omega arith)
    ∙ append_assoc a (map f b) (f x ∷ c) ∙ ap (λ ys. a ++ ys) (sym (append_assoc (map f b) (f x ∷ []) c))
    ∙ ap (λ ys. a ++ (ys ++ c)) (sym (map-append f b (x ∷ [])))
    ∙ sym (with_stretch_at (map f) a (b ++ x ∷ []) c s (i + 1) la last)
    ∙ ap (with_stretch s (i + 1) (map f)) whole

-- one more place changed through placements
pub changed_more : {X : Type 0} (d : X) (f : X → X) (ps : Placements) (s e : ℕ) (places : List ℕ) (xs ys zs : List X)
    (from i : ℕ) → MayArrange ps s e (length xs) places → from ≤ i → i < length xs → length ys ≡ length xs
    → placed_by_all ps s e places ys ≡ with_stretch from i (map f) (placed_by_all ps s e places xs)
    → zs ≡ with_stretch (old_place_by_all ps s e places i) (old_place_by_all ps s e places i + 1) (map f) ys
    → placed_by_all ps s e places zs ≡ with_stretch from (i + 1) (map f) (placed_by_all ps s e places xs)
changed_more d f ps s e places xs ys zs from i a h within long done next =
    let q = old_place_by_all ps s e places i in
    let b : MayArrange ps s e (length ys) places = subst (λ m. MayArrange ps s e m places) (sym long) a in
    let inside : q < length ys = subst (λ n. q < n) (sym long) (all_within ps s e (length xs) places i a within) in
    let all = placed_by_all ps s e places in
    let hs = all xs in
    let lh : length hs ≡ length xs = all_long ps s e places xs a in
    let read : get_or (all ys) i d ≡ get_or ys q d = all_reads d ps s e places ys i b (omega arith) in
    let ly : length (all ys) ≡ length ys = all_long ps s e places ys b in
    ap all (next ∙ one_changed d f q ys inside)
    ∙ all_written d (f (get_or ys q d)) ps s e places ys i b (omega arith)
    ∙ ap (λ x. set (all ys) i (f x)) (sym read) ∙ sym (one_changed d f i (all ys) (omega arith))
    ∙ ap (with_stretch i (i + 1) (map f)) done ∙ one_more d f from i hs h (omega arith)

pub length-one_changed : {X : Type 0} (f : X → X) (q : ℕ) (xs : List X) → q < length xs
    → length (with_stretch q (q + 1) (map f) xs) ≡ length xs
length-one_changed f q xs within = search (arith, length-append, length-map, length-take-le, length-drop, length-stretch)

pub none_changed : {X : Type 0} (f : X → X) (s : ℕ) (xs : List X) → with_stretch s s (map f) xs ≡ xs
none_changed f s xs =
    let none : s - s ≡ 0 = omega arith in
    ap (λ n. take s xs ++ (map f (take n (drop s xs)) ++ drop s xs)) none ∙ take-append-drop s xs

pub only_glyphs : (a b c : Buffer) (gs : Glyphs) → b ≡ record a { glyphs = b.glyphs } → c ≡ record b { glyphs = gs }
    → c ≡ record a { glyphs = c.glyphs }
only_glyphs = search arith

pub get_or-default : {X : Type 0} (xs : List X) (i : ℕ) (d c : X) → i < length xs → get_or xs i d ≡ get_or xs i c
get_or-default [] i d c l = absurd (omega arith)
get_or-default (x ∷ xs) zero d c l = refl
get_or-default (x ∷ xs) (suc i) d c l = get_or-default xs i d c (omega arith)

-- MERGES. What stands from one place on, and up to it
pub clusters_from : (d : Glyph) (i e : ℕ) (gs : Glyphs) → i < e → e ≤ length gs → clusters (stretch_of i e gs)
    ≡ (get_or gs i d).cluster ∷ clusters (stretch_of (i + 1) e gs)
clusters_from d i e gs l within =
    let n : e - i ≡ suc (e - (i + 1)) = omega arith in
    ap (λ (hs : Glyphs). clusters (take (e - i) hs)) (drop_more gs i d (omega arith))
    ∙ ap (λ n. clusters (take n (get_or gs i d ∷ drop (i + 1) gs))) n

pub none_from : (i e : ℕ) (gs : Glyphs) → e ≤ i → clusters (stretch_of i e gs) ≡ []
none_from i e gs l = let n : e - i ≡ 0 = omega arith in ap (λ n. clusters (take n (drop i gs))) n

pub least_from : (d : Glyph) (i e : ℕ) (gs : Glyphs) → i < e → e ≤ length gs → least (clusters (stretch_of i e gs))
    ≡ fold min (get_or gs i d).cluster (clusters (stretch_of (i + 1) e gs))
least_from d i e gs l within = ap least (clusters_from d i e gs l within)

-- what a merge makes of a stretch, by the clusters of its ends and the least of the others
pub merged_by_ends : (d : Glyph) (s e c m l k j : ℕ) (gs : Glyphs) → s + 1 < e → e ≤ length gs
    → c ≡ (get_or gs s d).cluster → l ≡ (get_or gs (e - 1) d).cluster
    → m ≡ min (least (clusters (stretch_of (s + 1) e gs))) c
    → k ≡ equal_before c m (take s gs) → j ≡ equal_behind l m (drop e gs)
    → with_stretch (s - k) (e + j) (map (in_cluster m)) gs ≡ merged s e gs
merged_by_ends d s e c m l k j gs two within first last is before behind =
    let b = s + 1 in
    let one : stretch_of s b gs ≡ get_or gs s d ∷ [] =
    let n : b - s ≡ 1 = omega arith in
    ap (λ n. take n (drop s gs)) n ∙ ap (take 1) (drop_more gs s d (omega arith)) in
    let own : in_cluster c (get_or gs s d) ≡ get_or gs s d = search (arith, eq-eqb) in
    let same : with_stretch s b (map (in_cluster c)) gs ≡ gs =
    ap (λ (hs : Glyphs). take s gs ++ (map (in_cluster c) hs ++ drop b gs)) one
    ∙ ap (λ g. take s gs ++ (g ∷ drop b gs)) own ∙ ap (λ (hs : Glyphs). take s gs ++ hs) (sym (drop_more gs s d (omega arith)))
    ∙ take-append-drop s gs in
    let none : none_below c (stretch_of s b gs) ≡ true =
    ap (none_below c) one ∙ search (arith, le-leb) in
    let rest = stretch_of b e gs in
    let long : length rest ≡ e - b = length-stretch b e gs within in
    let at : get_or rest (length rest - 1) default_glyph ≡ get_or gs (e - 1) default_glyph =
    search (arith, get_or-stretch) in
    let end : l ≡ last_cluster rest =
    last ∙ ap (λ (g : Glyph). g.cluster) (get_or-default gs (e - 1) d default_glyph (omega arith) ∙ sym at)
    ∙ last-read rest (omega arith) in
    grown_merged s b c s e k m l j gs (omega arith) (omega arith) two within none is end before behind
    ∙ ap (merged s e) same

pub run_on : (c i : ℕ) (gs : Glyphs) → i < length gs → (get_or gs i default_glyph).cluster ≡ c
    → prefix_len (has_cluster c) (drop i gs) ≡ suc (prefix_len (has_cluster c) (drop (i + 1) gs))
run_on c i gs l same = search (arith, drop_more gs i default_glyph l, eq-eqb)

pub run_stops : (c i : ℕ) (gs : Glyphs) → i < length gs → (get_or gs i default_glyph).cluster ≢ c
    → prefix_len (has_cluster c) (drop i gs) ≡ 0
run_stops c i gs l other = search (arith, drop_more gs i default_glyph l, ne_eqb)

pub run_back : (c i : ℕ) (gs : Glyphs) → i < length gs → (get_or gs i default_glyph).cluster ≡ c
    → suffix_len (has_cluster c) (take (i + 1) gs) ≡ suc (suffix_len (has_cluster c) (take i gs))
run_back c i gs l same = search (arith, take_more gs i default_glyph l, suffix_len_yes, eq-eqb)

pub run_starts : (c i : ℕ) (gs : Glyphs) → i < length gs → (get_or gs i default_glyph).cluster ≢ c
    → suffix_len (has_cluster c) (take (i + 1) gs) ≡ 0
run_starts c i gs l other = search (arith, take_more gs i default_glyph l, suffix_len_no, ne_eqb)

pub merge_here : (level : BufferClusterLevel) (from to : ℕ) (gs hs : Glyphs) → merges level ≡ true → 2 ≤ to - from
    → hs ≡ merged from to gs → hs ≡ merge level from to gs
merge_here level from to gs hs some two is =
    let many : nat_lt (to - from) 2 ≡ false = grind (arith, nat_tests) in
    rw (some, many) is

-- WRITTEN ONCE. What stands outside of the syllable stays
outside : {X : Type 0} (p : Placement) (s e : ℕ) (places : List ℕ) (xs : List X) → s ≤ e → e ≤ length xs
    → PlacesEachOnce p s e places
    → (take s (placed_by p s e places xs) ≡ take s xs) × (drop e (placed_by p s e places xs) ≡ drop e xs)
outside p s e places xs h l each =
    let ps = places_of p s e places in
    let n : length (pick ps xs) ≡ e - s = length-pick ps xs (all_below s (e - s) (length xs) ps each (omega arith))
    ∙ as_many s (e - s) ps each in
    let front : length (take s xs) ≡ s = length-take-le s xs (omega arith) in
    let both : length (take s xs ++ pick ps xs) ≡ e =
    length-append (take s xs) (pick ps xs) ∙ omega (arith, front, n) in (
      take_at (take s xs) (pick ps xs ++ drop e xs) s front,
      ap (drop e) (sym (append_assoc (take s xs) (pick ps xs)
          (drop e xs))) ∙ drop_at (take s xs ++ pick ps xs) (drop e xs) e both,
    )

pub all_outside : {X : Type 0} (ps : Placements) (s e : ℕ) (places : List ℕ) (xs : List X)
    → MayArrange ps s e (length xs) places
    → (take s (placed_by_all ps s e places xs) ≡ take s xs) × (drop e (placed_by_all ps s e places xs) ≡ drop e xs)
all_outside ps s e places xs a =
    let ys = placed_by ps.first s e places xs in
    let zs = placed_by ps.second s e places ys in
    let h = a.in_order in
    let l1 = placed_long ps.first s e places xs h a.in_range a.first in
    let ly : e ≤ length ys = omega (arith, a.in_range) in
    let l2 = placed_long ps.second s e places ys h ly a.second in
    let lz : e ≤ length zs = omega (arith, a.in_range) in
    let o1 = outside ps.first s e places xs h a.in_range a.first in
    let o2 = outside ps.second s e places ys h ly a.second in
    let o3 = outside ps.third s e places zs h lz a.third in
    (o3.0 ∙ o2.0 ∙ o1.0, o3.1 ∙ o2.1 ∙ o1.1)

pub written_once : {X : Type 0} (ps : Placements) (s e : ℕ) (places : List ℕ) (xs ys : List X)
    → MayArrange ps s e (length xs) places → ys ≡ stretch_of s e (placed_by_all ps s e places xs)
    → with_stretch s e (λ _. ys) xs ≡ placed_by_all ps s e places xs
written_once {X} ps s e places xs ys a is =
    let o = all_outside ps s e places xs a in
    let all = placed_by_all ps s e places xs in
    ap (λ (zs : List X). take s xs ++ (zs ++ drop e xs)) is
    ∙ ap (λ (zs : List X). zs ++ (stretch_of s e all ++ drop e xs)) (sym o.0)
    ∙ ap (λ (zs : List X). take s all ++ (stretch_of s e all ++ zs)) (sym o.1) ∙ three_parts s e all a.in_order

pub gathered_more : {X : Type 0} (d : X) (ps : Placements) (s e : ℕ) (places : List ℕ) (xs to : List X) (i : ℕ)
    → MayArrange ps s e (length xs) places → i < e - s → length to ≡ e - s
    → take i to ≡ take i (stretch_of s e (placed_by_all ps s e places xs))
    → take (i + 1) (set to i (get_or xs (old_place_by_all ps s e places (s + i)) d))
    ≡ take (i + 1) (stretch_of s e (placed_by_all ps s e places xs))
gathered_more d ps s e places xs to i a within long done =
    let all = placed_by_all ps s e places xs in
    let part = stretch_of s e all in
    let h = a.in_order in
    let r = a.in_range in
    let n = all_long ps s e places xs a in
    let lp : length part ≡ e - s = length-stretch s e all (omega arith) in
    let read : get_or xs (old_place_by_all ps s e places (s + i)) d ≡ get_or part i d =
    sym (get_or-stretch s e i d all within ∙ all_reads d ps s e places xs (s + i) a (omega arith)) in
    take_more_set to i (get_or xs (old_place_by_all ps s e places (s + i)) d) (omega arith)
    ∙ ap (λ ys. ys ++ get_or xs (old_place_by_all ps s e places (s + i)) d ∷ []) done
    ∙ ap (λ y. take i part ++ y ∷ []) read ∙ sym (take_more part i d (omega arith))

-- WRITTEN BACK. What is put where it comes from: none, one more, and all
pub put_none : {X : Type 0} (s : ℕ) (ys zs : List X) → with_stretch s (s + 0) (λ _. take 0 ys) zs ≡ zs
put_none s ys zs =
    let same : s + 0 ≡ s = omega arith in
    ap (λ n. take s zs ++ drop n zs) same ∙ take-append-drop s zs

pub put_more : {X : Type 0} (d : X) (ps : Placements) (s e : ℕ) (places : List ℕ) (xs hs ys : List X) (i : ℕ)
    → MayArrange ps s e (length xs) places → i < e - s → length ys ≡ e - s → length hs ≡ length xs
    → placed_by_all ps s e places hs ≡ with_stretch s (s + i) (λ _. take i ys) (placed_by_all ps s e places xs)
    → placed_by_all ps s e places (set hs (old_place_by_all ps s e places (s + i)) (get_or ys i d))
    ≡ with_stretch s (s + (i + 1)) (λ _. take (i + 1) ys) (placed_by_all ps s e places xs)
put_more d ps s e places xs hs ys i may within many long done =
    let h = may.in_order in
    let r = may.in_range in
    let now : MayArrange ps s e (length hs) places = subst (λ m. MayArrange ps s e m places) (sym long) may in
    let zs = placed_by_all ps s e places xs in
    let n : length zs ≡ length xs = all_long ps s e places xs may in
    let a = take s zs in
    let b = take i ys in
    let v = get_or ys i d in
    let z = get_or zs (s + i) d in
    let c = drop (s + (i + 1)) zs in
    let la : length a ≡ s = length-take-le s zs (omega arith) in
    let lb : length b ≡ i = length-take-le i ys (omega arith) in
    let front : length (a ++ b) ≡ s + i = length-append a b ∙ omega (arith, la, lb) in
    let next : s + i + 1 ≡ s + (i + 1) = omega arith in
    let rest : drop (s + i) zs ≡ z ∷ c =
    drop_more zs (s + i) d (omega arith) ∙ ap (λ k. z ∷ drop k zs) next in
    all_written d v ps s e places hs (s + i) now (omega arith)
    ∙ ap (λ ws. set ws (s + i) v) (done ∙ ap (λ ws. a ++ (b ++ ws)) rest ∙ sym (append_assoc a b (z ∷ c)))
    ∙ set_at (a ++ b) z c v (s + i) front ∙ append_assoc a b (v ∷ c)
    ∙ ap (λ ws. a ++ ws) (sym (append_assoc b (v ∷ []) c)) ∙ ap (λ ws. a ++ (ws ++ c)) (sym (take_more ys i d (omega arith)))

pub put_whole : {X : Type 0} (s e : ℕ) (ys zs : List X) → s ≤ e → length ys ≡ e - s
    → with_stretch s (s + (e - s)) (λ _. take (e - s) ys) zs ≡ with_stretch s e (λ _. ys) zs
put_whole s e ys zs h many =
    let end : s + (e - s) ≡ e = omega arith in
    let whole : take (e - s) ys ≡ ys = ap (λ n. take n ys) (sym many) ∙ take-length ys in
    ap (λ n. take s zs ++ (take (e - s) ys ++ drop n zs)) end ∙ ap (λ ws. take s zs ++ (ws ++ drop e zs)) whole

-- where nothing but a syllable has changed, whatever its text is called
pub changed_alone : (s e : ℕ) (old new as_old as_new : Glyphs) → old ≡ as_old → new ≡ as_new
    → new ≡ with_stretch s e (λ _. stretch_of s e new) old
    → as_new ≡ with_stretch s e (λ _. stretch_of s e as_new) as_old
changed_alone s e old new as_old as_new before after alone =
    sym after ∙ alone ∙ ap (λ (gs : Glyphs). with_stretch s e (λ _. stretch_of s e gs) old) after
    ∙ ap (with_stretch s e (λ _. stretch_of s e as_new)) before

placed_raw : {X : Type 0} (p : Placement) (s e : ℕ) (raw : List ℕ) (xs : List X)
    → placed_by p s e (without_last_zeros raw) xs ≡ placed_by p s e raw xs
placed_raw p s e raw xs = ap (λ ps. with_stretch s e (λ _. pick ps xs) xs) (places_raw p s e raw)

pub all_placed_raw : {X : Type 0} (ps : Placements) (s e : ℕ) (places raw : List ℕ) (xs : List X)
    → places ≡ without_last_zeros raw → placed_by_all ps s e raw xs ≡ placed_by_all ps s e places xs
all_placed_raw ps s e places raw xs same =
    sym (ap (λ qs. placed_by_all ps s e qs xs) same
    ∙ ap (λ ys. placed_by ps.third s e (without_last_zeros raw) (placed_by ps.second s e (without_last_zeros raw) ys))
    (placed_raw ps.first s e raw xs)
    ∙ ap (placed_by ps.third s e (without_last_zeros raw)) (placed_raw ps.second s e raw _)
    ∙ placed_raw ps.third s e raw _)

pub arranges_raw : (ps : Placements) (s e n m : ℕ) (places raw : List ℕ) → places ≡ without_last_zeros raw → n ≡ m
    → MayArrange ps s e n places → MayArrange ps s e m raw
arranges_raw ps s e n m places raw same long a = record {
  in_order = a.in_order;
  in_range = subst (λ k. e ≤ k) long a.in_range;
  first = each_raw ps.first s e places raw same a.first;
  second = each_raw ps.second s e places raw same a.second;
  third = each_raw ps.third s e places raw same a.third;
}

-- where one placement alone moves anything
pub still : (p : Placement) → is_still p ≡ true → p ≡ Stays
still Stays h = refl
still (Forward to from count) h = cc
still Listed h = cc

pub only_one : {X : Type 0} (ps : Placements) (s e : ℕ) (places : List ℕ) (xs : List X) → MayArrange ps s e (length xs) places
    → (ps.second ≡ Stays → ps.third ≡ Stays → placed_by_all ps s e places xs ≡ placed_by ps.first s e places xs)
    × (ps.first ≡ Stays → ps.third ≡ Stays → placed_by_all ps s e places xs ≡ placed_by ps.second s e places xs)
    × (ps.first ≡ Stays → ps.second ≡ Stays → placed_by_all ps s e places xs ≡ placed_by ps.third s e places xs)
only_one {X} ps s e places xs a =
    let h = a.in_order in
    let r = a.in_range in
    let by : Placement → List X → List X = λ p ys. placed_by p s e places ys in
    let same = λ (p : Placement) (ys : List X) (n : length ys ≡ length xs) (stays : p ≡ Stays).
    ap (λ q. by q ys) stays ∙ placed_stays s e places ys h (omega arith) in
    let l1 = placed_long ps.first s e places xs h r a.first in
    let l2 = placed_long ps.second s e places (by ps.first xs) h (omega arith) a.second in (
      λ two three. same ps.third (by ps.second (by ps.first xs)) (l2 ∙ l1) three ∙ same ps.second (by ps.first xs) l1 two,
      λ one three. same ps.third (by ps.second (by ps.first xs)) (l2 ∙ l1) three
          ∙ ap (by ps.second) (same ps.first xs refl one),
      λ one two. ap (by ps.third) (same ps.second (by ps.first xs) l1 two ∙ same ps.first xs refl one),
    )

pub nothing_moved : {X : Type 0} (ps : Placements) (s e : ℕ) (places : List ℕ) (xs : List X)
    → MayArrange ps s e (length xs) places → moves_nothing ps ≡ true → placed_by_all ps s e places xs ≡ xs
nothing_moved {X} ps s e places xs a none =
    let one = and_parts (is_still ps.first) (is_still ps.second && is_still ps.third) none in
    let two = and_parts (is_still ps.second) (is_still ps.third) one.1 in
    (only_one ps s e places xs a).0 (still ps.second two.0) (still ps.third two.1)
    ∙ ap (λ p. placed_by p s e places xs) (still ps.first one.0) ∙ placed_stays s e places xs a.in_order a.in_range

pub length-with_stretch : {X : Type 0} (f : X → X) (s e : ℕ) (xs : List X) → s ≤ e → length (with_stretch s e (map f) xs)
    ≡ length xs
length-with_stretch f s e xs h =
    let a = take s xs in
    let b = stretch_of s e xs in
    let c = drop e xs in
    cc (
      length-append a (map f b ++ c),
      length-append (map f b) c,
      length-map b f,
      length-append b c,
      length-append a (b ++ c),
      three_parts s e xs h,
    )

by_test : (b : Bool) (gs hs : Glyphs) → length gs ≡ length hs → length (if b then gs else hs) ≡ length hs
by_test true gs hs same = same
by_test false gs hs same = refl

pub length-merged : (level : BufferClusterLevel) (s e : ℕ) (gs : Glyphs) → s ≤ e → length (merge level s e gs) ≡ length gs
length-merged level s e gs h = by_test (merges level && not (nat_lt (e - s) 2)) (merged s e gs) gs
    (length-with_stretch _ (low s e gs) (high s e gs) gs (omega arith))
