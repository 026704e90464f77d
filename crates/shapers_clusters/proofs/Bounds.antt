-- What a merge leaves and makes, by its bounds.
use Rattle.std.proofs.Common.{ℕ, ◌-◌, ◌<◌, ◌≤◌, ◌≡◌, ◌&&◌, Bool, true, false, not, nat_lt, if◌then◌else◌, ◌++◌, map, length, get_or, take, drop, ◌∙◌, arith, append_assoc, length-append, length-take, length-drop}
use Rattle.std.proofs.lemmas.List.{length-map, map-append, take_at, drop_at}
use Rattle.std.proofs.lemmas.List.Sums.{prefix_len-le-length}
use Rattle.shapers_buffer.specs.Glyphs.{Glyph, Glyphs}
use Rattle.shapers_buffer.specs.declared.buffer.level.BufferClusterLevel.{BufferClusterLevel}
use Rattle.shapers_buffer.specs.Glyph.{clusters}
use Rattle.shapers_buffer.specs.Clusters.{least, in_cluster, low, high, merge, merges, stretch_of, with_stretch}
use Rattle.shapers_clusters.proofs.ClusterMerges.{clusters-put}
use Rattle.shapers_clusters.proofs.Spread.{second_part, map-constant}

low_within : (s e : ℕ) (gs : Glyphs) → low s e gs ≤ s
low_within = omega arith

high_behind : (s e : ℕ) (gs : Glyphs) → e ≤ high s e gs
high_behind = omega arith

high_within : (s e : ℕ) (gs : Glyphs) → e ≤ length gs → high s e gs ≤ length gs
high_within = search (arith, prefix_len-le-length, length-drop)

-- a stretch changed, glyph by glyph
stretched-behind : (n m : ℕ) (f : Glyph → Glyph) (gs : Glyphs) → n ≤ m → m ≤ length gs
    → drop m (with_stretch n m (map f) gs) ≡ drop m gs
stretched-behind n m f gs h l =
    let changed = map f (stretch_of n m gs) in
    cc (
      append_assoc (take n gs) changed (drop m gs),
      drop_at (take n gs ++ changed) (drop m gs) m
          (length-append (take n gs) changed ∙ search (arith, length-map, length-take, length-drop)),
    )

stretched-cluster : (n m c : ℕ) (gs : Glyphs) → n ≤ m → m ≤ length gs → (p : ℕ) → n ≤ p → p < m
    → get_or (clusters (with_stretch n m (map (in_cluster c)) gs)) p 0 ≡ c
stretched-cluster n m c gs h l p from to =
    let middle = clusters (stretch_of n m gs) in
    let parts : clusters (with_stretch n m (map (in_cluster c)) gs) ≡ clusters (take n gs)
    ++ (map (λ _. c) (clusters (stretch_of n m gs)) ++ clusters (drop m gs)) =
    search (map-append, clusters-put) in
    let an : length (clusters (take n gs)) ≡ n = search (arith, length-map, length-take) in
    let mn : length middle ≡ m - n = search (arith, length-map, length-take, length-drop) in
    let bn : length (map (λ (x : ℕ). c) middle) ≡ m - n = length-map middle (λ x. c) ∙ mn in
    search (arith, second_part, map-constant)

-- a merge does nothing, or merges
either : (n : ℕ) (a : Bool) {X : Type 0} (P : X → Type 0) (x y : X) → P y → (1 < n → P x)
    → P (if a && not (nat_lt n 2) then x else y)
either n true P x y here there = grind arith
either n false P x y here there = here

pub merge_taken : (n : ℕ) (a : Bool) {X : Type 0} (x y : X) → a ≡ true → 1 < n
    → (if a && not (nat_lt n 2) then x else y) ≡ x
merge_taken n true x y m h = grind arith
merge_taken n false x y m h = absurd cc

pub merge-before : (level : BufferClusterLevel) (s e : ℕ) (gs : Glyphs) → e ≤ length gs
    → take (low s e gs) (merge level s e gs) ≡ take (low s e gs) gs
merge-before = search (arith, take_at, length-take)

pub merge-behind : (level : BufferClusterLevel) (s e : ℕ) (gs : Glyphs) → e ≤ length gs
    → drop (high s e gs) (merge level s e gs) ≡ drop (high s e gs) gs
merge-behind = search (arith, stretched-behind, high_within)

pub merge-inside : (level : BufferClusterLevel) (s e : ℕ) (gs : Glyphs) → e ≤ length gs
    → merges level ≡ true → 1 < e - s → (p : ℕ) → low s e gs ≤ p → p < high s e gs
    → get_or (clusters (merge level s e gs)) p 0 ≡ least (clusters (stretch_of s e gs))
merge-inside = search (arith, stretched-cluster, high_within)
