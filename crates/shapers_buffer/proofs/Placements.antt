-- Placements: a stretch that comes forward in parts, as a rotation and as places; what permutes;
-- what a placement makes of a list; maps.
use Rattle.std.proofs.Common.{◌≡◌, ℕ, ◌+◌, ◌-◌, ◌<◌, ◌≤◌, List, [], ◌∷◌, ◌++◌, length, take, drop, get_or, refl, ◌∙◌, arith, append_assoc}
use Rattle.std.specs.List.{range_with_len, slice_rotate_right}
use Rattle.std.specs.List.Sorted.{IsPermutation}
use Rattle.std.proofs.Math.Seq.{take-add}
use Rattle.std.proofs.lemmas.List.{drop-drop, drop_at, drop_more, length-append, length-drop, length-take-le, take-append-drop, take_at, take_more}
use Rattle.std.proofs.lemmas.List.FromFn.{length-range_with_len}
use Rattle.std.proofs.lemmas.List.Sorted.{IsPermutation-append_comm, IsPermutation-append_left, IsPermutation-append_right, length_permutation}
use Rattle.shapers_buffer.specs.Clusters.{stretch_of, with_stretch}
use Rattle.shapers_buffer.specs.Lists.{first_last}
use Rattle.shapers_buffer.specs.Places.{PartsChangePlaces, PlacesEachOnce, brought_forward, placed_by}
use Rattle.shapers_buffer.specs.declared.buffer.placement.Placement.TheVariants.{Forward, Stays}
use Rattle.shapers_buffer.proofs.ClusterLemmas.{length-stretch, three_parts}
use Rattle.shapers_buffer.proofs.Picks.{pick-append, pick-range}
use Rattle.shapers_buffer.proofs.Ranges.{range-append}

-- A STRETCH of three parts, changed
pub with_stretch_at : {X : Type 0} (f : List X → List X) (a b c : List X) (s e : ℕ) → length a ≡ s → s + length b ≡ e
    → with_stretch s e f (a ++ (b ++ c)) ≡ a ++ (f b ++ c)
with_stretch_at f a b c s e la lb = search (
  arith,
  take_at,
  drop_at,
  append_assoc a b c,
  drop_at (a ++ b) c e (length-append a b ∙ omega (arith, la, lb)),
)

-- FOUR PARTS: what stands before, what is passed, what comes, what stands behind
pub record FourParts {X : Type 0} (to from count : ℕ) (xs : List X) : Type 0 where
  pub before : List X
  pub passed : List X
  pub coming : List X
  pub behind : List X
  pub whole : before ++ (passed ++ (coming ++ behind)) ≡ xs
  pub first : length before ≡ to
  pub second : to + length passed ≡ from
  pub third : length coming ≡ count

pub in_four : {X : Type 0} (to from count : ℕ) (xs : List X) → to ≤ from → from + count ≤ length xs
    → FourParts to from count xs
in_four to from count xs h l =
    let ys = drop to xs in
    let zs = drop (from - to) ys in
    let ly : length ys ≡ length xs - to = length-drop to xs in
    let lz : length zs ≡ length ys - (from - to) = length-drop (from - to) ys in
    record {
      before = take to xs;
      passed = take (from - to) ys;
      coming = take count zs;
      behind = drop count zs;
      whole = search (arith, take-append-drop);
      first = length-take-le to xs (omega arith);
      second = search (arith, length-take-le);
      third = search (arith, length-take-le);
    }

pub brought_parts : {X : Type 0} (a b c d : List X) (to from count : ℕ) → length a ≡ to → to + length b ≡ from
    → length c ≡ count → brought_forward to from count (a ++ (b ++ (c ++ d))) ≡ a ++ (c ++ (b ++ d))
brought_parts a b c d to from count la lb lc =
    let front = a ++ b in
    let lf = length-append a b ∙ omega (arith, la, lb) in
    let lx : length (front ++ c) ≡ from + count = length-append front c ∙ omega (arith, lf, lc) in
    let lb2 : length b ≡ from - to = omega (arith, lb) in
    let lc2 : length c ≡ from + count - from = omega (arith, lc) in
    search (arith, take_at, append_assoc a b (c ++ d), drop_at front (c ++ d) from lf, drop_at, append_assoc front c d)

-- ROTATIONS. The last of two parts comes before the first
pub last_first : {X : Type 0} (a b : List X) (k : ℕ) → length b ≡ k → slice_rotate_right (a ++ b) k ≡ b ++ a
last_first = search (arith, drop_at, length-append, take_at)

-- the last elements before the others, one by one
pub rotated_more : {X : Type 0} (xs : List X) (k : ℕ) (d : X) → k < length xs
    → slice_rotate_right (slice_rotate_right xs k) 1 ≡ slice_rotate_right xs (k + 1)
rotated_more xs k d within =
    let j = length xs - (k + 1) in
    let behind = drop (j + 1) xs in
    let y = get_or xs j d in
    search (
      arith,
      take_more xs j d (omega arith),
      append_assoc behind (take j xs) (y ∷ []),
      last_first,
      drop_more xs j d (omega arith),
    )

-- the first elements behind the others, one by one
pub turned_more : {X : Type 0} (xs : List X) (k : ℕ) (d : X) → k < length xs
    → drop 1 (drop k xs ++ take k xs) ++ take 1 (drop k xs ++ take k xs) ≡ drop (k + 1) xs ++ take (k + 1) xs
turned_more xs k d within = search (arith, drop_more xs k d within, append_assoc, take_more xs k d within)

-- a stretch rotated by what comes
pub rotated_stretch : {X : Type 0} (to from count : ℕ) (xs : List X) → to ≤ from → from + count ≤ length xs
    → with_stretch to (from + count) (λ ys. slice_rotate_right ys count) xs ≡ brought_forward to from count xs
rotated_stretch to from count xs h l =
    let p = in_four to from count xs h l in
    let both : to + length (p.passed ++ p.coming) ≡ from + count =
    omega (arith, length-append p.passed p.coming, p.third) in
    search (
      arith,
      append_assoc,
      p.whole,
      with_stretch_at (λ ys. slice_rotate_right ys count) p.before (p.passed ++ p.coming) p.behind to (from + count)
          p.first both,
      last_first,
      brought_parts,
    )

-- GONE BACK: the first of a stretch behind its others, so many
first_goes_back : {X : Type 0} (a b : List X) → length a ≡ 1 → first_last (a ++ b) ≡ b ++ a
first_goes_back (x ∷ []) b n = refl
first_goes_back _ b n = absurd (omega arith)

pub gone_back : {X : Type 0} (at count : ℕ) (xs : List X) → at + 1 + count ≤ length xs
    → brought_forward at (at + 1) count xs ≡ with_stretch at (at + 1 + count) first_last xs
gone_back at count xs l =
    let p = in_four at (at + 1) count xs (omega arith) l in
    let second = p.second in
    let both : at + length (p.passed ++ p.coming) ≡ at + 1 + count =
    omega (arith, length-append p.passed p.coming, second, p.third) in
    search (
      arith,
      p.whole,
      brought_parts,
      append_assoc,
      first_goes_back,
      with_stretch_at first_last p.before (p.passed ++ p.coming) p.behind at (at + 1 + count) p.first both,
    )

-- WHAT PERMUTES
parts_permute : {X : Type 0} (a b c d : List X) → IsPermutation (a ++ (b ++ (c ++ d))) (a ++ (c ++ (b ++ d)))
parts_permute a b c d =
    IsPermutation-append_right a (b ++ (c ++ d)) (c ++ (b ++ d))
    (
    search (
      arith,
      append_assoc b c d,
      append_assoc c b d,
      IsPermutation-append_left d (b ++ c) (c ++ b) (IsPermutation-append_comm b c),
    ))

range_at : (s m e : ℕ) → s ≤ m → m ≤ e → range_with_len s (e - s) ≡ range_with_len s (m - s) ++ range_with_len m (e - m)
range_at s m e = search (arith, range-append s (m - s) (e - m))

pub forward_permutes : (to from count s e : ℕ) (places : List ℕ) → s ≤ to → to ≤ from → from + count ≤ e
    → PlacesEachOnce (Forward to from count) s e places
forward_permutes to from count s e places h l m = search (
  arith,
  range_at s to e h (omega arith),
  range_at to from e l (omega arith),
  range_at from (from + count) e (omega arith) m,
  parts_permute,
)

-- where each place is said once, what comes forward stands in the syllable
pub forward_inside : (to from count s e : ℕ) (places : List ℕ) → s ≤ e
    → PlacesEachOnce (Forward to from count) s e places → (s ≤ to) × (to ≤ from) × (from + count ≤ e)
forward_inside to from count s e =
    let a = range_with_len s (to - s) in
    let b = range_with_len to (from - to) in
    let c = range_with_len from count in
    let d = range_with_len (from + count) (e - (from + count)) in
    search (
      arith,
      length_permutation,
      length-append a (c ++ (b ++ d)),
      length-append c (b ++ d),
      length-append b d,
      length-range_with_len s (to - s),
      length-range_with_len to (from - to),
      length-range_with_len from count,
      length-range_with_len (from + count) (e - (from + count)),
      length-range_with_len s (e - s),
    )

-- WHAT A PLACEMENT MAKES of a list
pub placed_stays : {X : Type 0} (s e : ℕ) (places : List ℕ) (xs : List X) → s ≤ e → e ≤ length xs
    → placed_by Stays s e places xs ≡ xs
placed_stays s e places xs h = search (arith, pick-range, three_parts s e xs h)

pub placed_forward : {X : Type 0} (to from count s e : ℕ) (places : List ℕ) (xs : List X) → s ≤ to → to ≤ from
    → from + count ≤ e → e ≤ length xs → placed_by (Forward to from count) s e places xs
    ≡ brought_forward to from count xs
placed_forward to from count s e places xs h l m n =
    let b = range_with_len to (from - to) in
    let c = range_with_len from count in
    let k = from + count in
    let d = range_with_len k (e - k) in
    let head = stretch_of s to xs in
    let coming = stretch_of from k xs in
    let passed = stretch_of to from xs in
    let last = stretch_of k e xs in
    let rest = drop e xs in
    search (
      arith,
      pick-append (range_with_len s (to - s)) (c ++ (b ++ d)) xs,
      pick-range s (to - s) xs (omega arith),
      pick-append c (b ++ d) xs,
      pick-range from count xs (omega arith),
      pick-append b d xs,
      pick-range to (from - to) xs (omega arith),
      pick-range k (e - k) xs (omega arith),
      append_assoc head (coming ++ (passed ++ last)) rest,
      append_assoc coming (passed ++ last) rest,
      append_assoc passed last rest,
      drop-drop (e - k) k xs,
      take-append-drop (e - k) (drop k xs),
      append_assoc (take s xs) head (coming ++ (passed ++ drop k xs)),
      take-add s (to - s) xs,
    )

pub parts_change_places : PartsChangePlaces
parts_change_places a b c d s e places h l n = search (
  arith,
  placed_forward (length a) (length a + length b) (length c) s e places (a ++ (b ++ (c ++ d))) h (omega arith)
      (omega arith) n,
  brought_parts,
)

-- WITHIN A SYLLABLE
pub brought_within : {X : Type 0} (to from count s e : ℕ) (xs : List X) → to ≤ from → from + count ≤ e - s → s ≤ e
    → e ≤ length xs → with_stretch s e (brought_forward to from count) xs ≡ brought_forward (s + to) (s + from) count xs
brought_within to from count s e xs h l m n =
    let ys = stretch_of s e xs in
    let ly : length ys ≡ e - s = length-stretch s e xs n in
    let p = in_four to from count ys h (omega arith) in
    let front = take s xs in
    let rest = drop e xs in
    cc (
      p.whole,
      brought_parts p.before p.passed p.coming p.behind to from count p.first p.second p.third,
      append_assoc p.before (p.coming ++ (p.passed ++ p.behind)) rest,
      append_assoc p.coming (p.passed ++ p.behind) rest,
      append_assoc p.passed p.behind rest,
      append_assoc front p.before (p.coming ++ (p.passed ++ (p.behind ++ rest))),
      brought_parts (front ++ p.before) p.passed p.coming (p.behind ++ rest) (s + to) (s + from) count
          (length-append front p.before ∙ omega (arith, length-take-le s xs (omega arith), p.first))
          (omega (arith, p.second)) p.third,
      append_assoc front p.before (p.passed ++ (p.coming ++ (p.behind ++ rest))),
      append_assoc p.coming p.behind rest,
      append_assoc p.passed (p.coming ++ p.behind) rest,
      append_assoc p.before (p.passed ++ (p.coming ++ p.behind)) rest,
      three_parts s e xs m,
    )
