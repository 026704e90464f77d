-- What the loops that merge rest on.
use Rattle.std.proofs.Common.{◌≡◌, ◌<◌, ◌≤◌, ℕ, suc, ◌+◌, ◌-◌, not, ◌&&◌, nat_lt, List, [], ◌∷◌, ◌++◌, min, map, length, get_or, take, drop, reverse, refl, sym, ap, ◌∙◌, append_assoc, arith, length-take, length-drop, if◌then◌else◌, length-take-le}
use Rattle.std.specs.Prelude.{fold}
use Rattle.std.specs.List.{prefix_len, suffix_len}
use Rattle.std.proofs.lemmas.List.{length-append, length-reverse, map-append, reverse-append, reverse-reverse, take_at, drop_at, drop-drop, take-take, drop-take, take-append-drop, drop_all, take_all, get_or-reverse, take-map, drop-map, append-nil, get_or-take, get_or-drop}
use Rattle.std.proofs.lemmas.List.Sums.{suffix_len-le-length}
use Rattle.std.proofs.Math.Seq.{drop-append_seam, take-add, take-append_seam}
use Rattle.shapers_buffer.specs.Glyphs.{Glyph, Glyphs}
use Rattle.shapers_buffer.specs.Glyph.{clusters, default_glyph}
use Rattle.shapers_buffer.specs.declared.buffer.level.BufferClusterLevel.{BufferClusterLevel}
use Rattle.shapers_buffer.proofs.MappedLists.{map-reverse}
use Rattle.shapers_buffer.specs.Clusters.{least, first_cluster, last_cluster, has_cluster, in_cluster, flooded, merged, merge, merges, stretch_of, with_stretch}

-- the least so far, and then of the rest
abbrev pub least_from : ℕ → Glyphs → ℕ
least_from m gs = fold min m (clusters gs)

-- flooding a cluster with itself changes nothing
pub flooded_itself : (c : ℕ) (gs : Glyphs) → flooded c c gs ≡ gs
flooded_itself c [] = refl
flooded_itself c (g ∷ gs) = grind (arith, flooded_itself c gs)

-- The merge rule as the code has it: the least cluster floods the neighbours on both sides of the stretch.
abbrev pub flood_merged : ℕ → ℕ → Glyphs → Glyphs
flood_merged s e gs =
    let middle = stretch_of s e gs in
    let m = least (clusters middle) in
    reverse (flooded (first_cluster middle) m (reverse (take s gs)))
    ++ (map (in_cluster m) middle ++ flooded (last_cluster middle) m (drop e gs))

abbrev pub flood_merge : BufferClusterLevel → ℕ → ℕ → Glyphs → Glyphs
flood_merge level s e gs = if merges level && not (nat_lt (e - s) 2) then flood_merged s e gs else gs

-- a flood reaches over the first glyphs of its cluster
pub flooded-parts : (c m : ℕ) (gs : Glyphs)
    → flooded c m gs ≡ map (in_cluster m) (take (prefix_len (has_cluster c) gs) gs)
    ++ drop (prefix_len (has_cluster c) gs) gs
flooded-parts c m [] = refl
flooded-parts c m (g ∷ gs) =
    let k = prefix_len (has_cluster c) gs in
    let one : suc k ≡ 1 + k = omega arith in
    search (arith, flooded-parts c m gs)

-- a list with its last k elements changed, from the end
reversed_parts : (f : Glyph → Glyph) (k : ℕ) (xs : Glyphs) → k ≤ length xs
    → reverse (map f (take k (reverse xs)) ++ drop k (reverse xs)) ≡ take (length xs - k) xs
    ++ map f (drop (length xs - k) xs)
reversed_parts f k xs h =
    let a = take (length xs - k) xs in
    let b = drop (length xs - k) xs in
    let n : length (reverse b) ≡ k = omega (arith, length-reverse b, length-drop (length xs - k) xs) in
    search (
      arith,
      take-append-drop,
      reverse-append a b,
      take_at,
      drop_at,
      reverse-append,
      reverse-reverse a,
      map-reverse f (reverse b),
      reverse-reverse b,
    )

pub flooded_before : (c m : ℕ) (xs : Glyphs) → reverse (flooded c m (reverse xs))
    ≡ take (length xs - suffix_len (has_cluster c) xs) xs
    ++ map (in_cluster m) (drop (length xs - suffix_len (has_cluster c) xs) xs)
flooded_before = search (arith, flooded-parts, reversed_parts, suffix_len-le-length)

-- a stretch with k places before it and j behind it, in its parts
pub stretch_widened : {X : Type 0} (s e k j : ℕ) (gs : List X) → s ≤ e → k ≤ s → stretch_of (s - k) (e + j) gs
    ≡ drop (s - k) (take s gs) ++ (stretch_of s e gs ++ take j (drop e gs))
stretch_widened s e k j gs h l =
    let many : e + j - (s - k) ≡ k + ((e - s) + j) = omega arith in
    let first : take k (drop (s - k) gs) ≡ drop (s - k) (take s gs) = sym (drop-take (s - k) k gs)
    ∙ ap (λ i. drop (s - k) (take i gs)) (omega arith) in
    search (arith, take-add, drop-drop)

-- that stretch changed by f
pub stretched_parts : (f : Glyph → Glyph) (s e k j : ℕ) (gs : Glyphs) → s ≤ e → k ≤ s
    → with_stretch (s - k) (e + j) (map f) gs ≡ (take (s - k) gs ++ map f (drop (s - k) (take s gs)))
    ++ (map f (stretch_of s e gs) ++ (map f (take j (drop e gs)) ++ drop j (drop e gs)))
stretched_parts = search (arith, stretch_widened, map-append, drop-drop, append_assoc)

-- how long a stretch is, what stands at its places, and each element of it changed
pub length-stretch : {X : Type 0} (s e : ℕ) (xs : List X) → e ≤ length xs → length (stretch_of s e xs) ≡ e - s
length-stretch = search (arith, length-take-le, length-drop)

pub get_or-stretch : {X : Type 0} (s e k : ℕ) (d : X) (xs : List X) → k < e - s → get_or (stretch_of s e xs) k d
    ≡ get_or xs (s + k) d
get_or-stretch = search (arith, get_or-take, get_or-drop)

pub map-stretch : {X Y : Type 0} (f : X → Y) (s e : ℕ) (xs : List X)
    → map f (stretch_of s e xs) ≡ stretch_of s e (map f xs)
map-stretch = search (arith, drop-map, take-map)

-- a list is its front, a stretch and what is behind it
pub three_parts : {X : Type 0} (s e : ℕ) (xs : List X) → s ≤ e → take s xs ++ (stretch_of s e xs ++ drop e xs) ≡ xs
three_parts s e xs = search (arith, drop-drop (e - s) s xs, take-append-drop, take-append-drop s xs)

-- glyphs of cluster 0 put into cluster 0 stay
last_stay : (xs : Glyphs) → map (in_cluster 0) (drop (length xs - suffix_len (has_cluster 0) xs) xs)
    ≡ drop (length xs - suffix_len (has_cluster 0) xs) xs
last_stay xs =
    let n = length xs - suffix_len (has_cluster 0) xs in
    search (
      arith,
      drop_at (take n xs) (map (in_cluster 0) (drop n xs)) n (omega (arith, length-take n xs)),
      flooded_before 0 0 xs,
      flooded_itself,
      reverse-reverse xs,
    )

-- what the merge rule makes of a stretch of these glyphs that stands in gs
with_middle : ℕ → ℕ → Glyphs → Glyphs → Glyphs
with_middle s e gs middle =
    with_stretch (s - suffix_len (has_cluster (first_cluster middle)) (take s gs))
    (e + prefix_len (has_cluster (last_cluster middle)) (drop e gs)) (map (in_cluster (least (clusters middle)))) gs

nothing_merged : (s e : ℕ) (gs : Glyphs) → s ≤ e → length gs ≤ s → with_middle s e gs [] ≡ gs
unfolding with_middle
nothing_merged s e gs h l =
    let a = s - (suffix_len (has_cluster 0) (take s gs)) in
    let b = e + prefix_len (has_cluster 0) (drop e gs) in
    let all : take s gs ≡ gs = take_all s gs l in
    let n = length gs - suffix_len (has_cluster 0) gs in
    search (
      arith,
      take-map,
      drop-drop (a - n) n gs,
      drop-map (in_cluster 0) (a - n) (drop n gs),
      last_stay gs,
      three_parts a b gs (omega arith),
    )

merged_outside : (s e : ℕ) (gs : Glyphs) → s ≤ e → length gs ≤ s → merged s e gs ≡ flood_merged s e gs
unfolding with_middle
merged_outside = search (arith, drop_all, nothing_merged, flooded_itself, reverse-reverse, take_all, append-nil)

-- the rule by its bounds is the code's
pub merged_is : (s e : ℕ) (gs : Glyphs) → s ≤ e → merged s e gs ≡ flood_merged s e gs
merged_is = search (
  arith,
  merged_outside,
  stretched_parts,
  suffix_len-le-length,
  flooded_before,
  length-take,
  take-take,
  flooded-parts,
)

pub merge_is : (level : BufferClusterLevel) (s e : ℕ) (gs : Glyphs) → merge level s e gs ≡ flood_merge level s e gs
merge_is = search (arith, merged_is)

pub last-read : (gs : Glyphs) → 0 < length gs → (get_or gs (length gs - 1) default_glyph).cluster ≡ last_cluster gs
last-read gs h = search (arith, get_or-reverse gs 0 default_glyph h)

-- the three parts as the code writes them are the merged glyphs
pub parts_merged : (info before rest middle behind fb sc fa : Glyphs) (s e m : ℕ) → s + 1 < e → e ≤ length info
    → before ≡ take s info → rest ≡ drop s info → middle ≡ take (e - s) rest → behind ≡ drop (e - s) rest
    → m ≡ least (clusters middle) → fb ≡ reverse (flooded (get_or middle 0 default_glyph).cluster m (reverse before))
    → sc ≡ map (in_cluster m) middle → fa ≡ flooded (get_or middle (length middle - 1) default_glyph).cluster m behind
    → fb ++ (sc ++ fa) ≡ merged s e info
parts_merged = search (arith, last-read, drop-drop, merged_is)

-- the same of a text in two parts, whose stretch is the first n glyphs of the second
pub parts_merged_across : (before rest middle behind fb sc fa : Glyphs) (n m : ℕ) → 1 < n → n ≤ length rest
    → middle ≡ take n rest → behind ≡ drop n rest
    → m ≡ least (clusters middle) → fb ≡ reverse (flooded (get_or middle 0 default_glyph).cluster m (reverse before))
    → sc ≡ map (in_cluster m) middle → fa ≡ flooded (get_or middle (length middle - 1) default_glyph).cluster m behind
    → fb ++ (sc ++ fa) ≡ merged (length before) (length before + n) (before ++ rest)
parts_merged_across before rest middle behind fb sc fa n m two within mid beh =
    let is : length before + n - length before ≡ n = omega arith in
    parts_merged (before ++ rest) before rest middle behind fb sc fa (length before) (length before + n) m (omega arith)
    (omega (arith, length-append before rest)) (sym (take-append_seam before rest)) (sym (drop-append_seam before rest))
    (mid ∙ ap (λ k. take k rest) (sym is)) (beh ∙ ap (λ k. drop k rest) (sym is))
