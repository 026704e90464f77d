-- A merge that ends with the first of two lists: it goes on over the second.
use Rattle.std.proofs.Common.{◌≡◌, ◌+◌, ◌-◌, ◌<◌, ◌≤◌, ℕ, true, [], ◌++◌, length, map, reverse, take, drop, get_or, sym, ap, ◌∙◌, arith, append_assoc}
use Rattle.std.proofs.Math.Seq.{drop-append_seam, take-append_seam}
use Rattle.std.proofs.lemmas.Bool.Decides.{nat_tests}
use Rattle.std.proofs.lemmas.List.{append-nil, drop-append-le, get_or_append_left, get_or-append_right, get_or-drop, get_or-map, length-drop, length-map, length-reverse, length-take-le, take-append-le}
use Rattle.shapers_buffer.specs.Glyphs.{Glyph, Glyphs}
use Rattle.shapers_buffer.specs.declared.buffer.level.BufferClusterLevel.{BufferClusterLevel}
use Rattle.shapers_buffer.specs.Clusters.{first_cluster, flooded, in_cluster, last_cluster, least, merge, merges, stretch_of}
use Rattle.shapers_buffer.specs.Glyph.{clusters, default_glyph}
use Rattle.shapers_buffer.proofs.ClusterLemmas.{flood_merged, last-read, merge_is}
use Rattle.shapers_buffer.proofs.OneCluster.{length-flooded}
use Rattle.shapers_clusters.proofs.Appended.{assembled}
use Rattle.shapers_clusters.proofs.Bounds.{merge_taken}

merged_two : (level : BufferClusterLevel) (s e : ℕ) (gs : Glyphs) → merges level ≡ true → 1 < e - s
    → merge level s e gs ≡ assembled (take s gs) (stretch_of s e gs) (drop e gs)
merged_two level s e gs on two = merge_is level s e gs
    ∙ merge_taken (e - s) (merges level) (flood_merged s e gs) gs on two

record Parts (s : ℕ) (xs ys : Glyphs) : Type 0 where
  front : take s (xs ++ ys) ≡ take s xs
  middle : stretch_of s (length xs) (xs ++ ys) ≡ drop s xs
  behind : drop (length xs) (xs ++ ys) ≡ ys

parts : (s : ℕ) (xs ys : Glyphs) → s ≤ length xs → Parts s xs ys
parts s xs ys h =
    let long : length xs - s ≡ length (drop s xs) = omega (arith, length-drop s xs) in
    record {
      front = take-append-le s xs ys h;
      middle = ap (take (length xs - s)) (drop-append-le s xs ys h) ∙ ap (λ n. take n (drop s xs ++ ys)) long
          ∙ take-append_seam (drop s xs) ys;
      behind = drop-append_seam xs ys;
    }

as_assembled : (level : BufferClusterLevel) (s : ℕ) (xs ys : Glyphs) → merges level ≡ true
    → s + 1 < length xs → merge level s (length xs) (xs ++ ys) ≡ assembled (take s xs) (drop s xs) ys
as_assembled level s xs ys on two =
    let p = parts s xs ys (omega arith) in
    merged_two level s (length xs) (xs ++ ys) on (omega arith)
    ∙ ap (λ x. assembled x (stretch_of s (length xs) (xs ++ ys)) (drop (length xs) (xs ++ ys))) p.front
    ∙ ap (λ x. assembled (take s xs) x (drop (length xs) (xs ++ ys))) p.middle
    ∙ ap (assembled (take s xs) (drop s xs)) p.behind

-- the last glyph's cluster, before the merge; and the cluster at s, after it
last_of_rest : (s : ℕ) (xs : Glyphs) → s + 1 < length xs
    → last_cluster (drop s xs) ≡ (get_or xs (length xs - 1) default_glyph).cluster
last_of_rest s xs two =
    let long : length (drop s xs) ≡ length xs - s = length-drop s xs in
    let place : s + (length (drop s xs) - 1) ≡ length xs - 1 = omega (arith, long) in
    sym (last-read (drop s xs) (omega (arith, long)))
    ∙ ap (λ (g : Glyph). g.cluster) (get_or-drop s xs (length (drop s xs) - 1) default_glyph)
    ∙ ap (λ n. (get_or xs n default_glyph).cluster) place

cluster-in_cluster : (m : ℕ) (g : Glyph) → (in_cluster m g).cluster ≡ m
cluster-in_cluster m g = grind (arith, nat_tests)

first_assembled : (front middle rest : Glyphs) → 0 < length middle
    → (get_or (assembled front middle rest) (length front) default_glyph).cluster ≡ least (clusters middle)
first_assembled front middle rest some =
    let m = least (clusters middle) in
    let before = reverse (flooded (first_cluster middle) m (reverse front)) in
    let behind = flooded (last_cluster middle) m rest in
    let long : length before ≡ length front = length-reverse (flooded (first_cluster middle) m (reverse front))
    ∙ length-flooded (first_cluster middle) m (reverse front) ∙ length-reverse front in
    let none : length front - length front ≡ 0 = omega arith in
    let there : 0 < length (map (in_cluster m) middle) = omega (arith, length-map middle (in_cluster m)) in
    ap (λ (g : Glyph). g.cluster)
    (get_or-append_right before (map (in_cluster m) middle ++ behind) (length front) (length front) default_glyph long
    (omega arith)
    ∙ ap (λ n. get_or (map (in_cluster m) middle ++ behind) n default_glyph) none
    ∙ get_or_append_left (map (in_cluster m) middle) behind default_glyph 0 there
    ∙ get_or-map (in_cluster m) middle 0 default_glyph default_glyph some)
    ∙ cluster-in_cluster m (get_or middle 0 default_glyph)

-- The merge of the two lists: that of the first, and the second's first glyphs of the last cluster.
pub joined_lists : (level : BufferClusterLevel) (s : ℕ) (xs ys : Glyphs) → merges level ≡ true
    → s + 1 < length xs → merge level s (length xs) xs ++ flooded (get_or xs (length xs - 1) default_glyph).cluster
    (get_or (merge level s (length xs) xs) s default_glyph).cluster ys ≡ merge level s (length xs) (xs ++ ys)
joined_lists level s xs ys on two =
    let front = take s xs in
    let middle = drop s xs in
    let m = least (clusters middle) in
    let before = reverse (flooded (first_cluster middle) m (reverse front)) in
    let alone : merge level s (length xs) xs ≡ assembled front middle [] =
    ap (merge level s (length xs)) (sym (append-nil xs)) ∙ as_assembled level s xs [] on two in
    let long : length front ≡ s = length-take-le s xs (omega arith) in
    let some : 0 < length middle = omega (arith, length-drop s xs) in
    let cluster : (get_or (merge level s (length xs) xs) s default_glyph).cluster ≡ m =
    ap (λ gs. (get_or gs s default_glyph).cluster) alone
    ∙ ap (λ n. (get_or (assembled front middle []) n default_glyph).cluster) (sym long)
    ∙ first_assembled front middle [] some in
    ap (λ c. merge level s (length xs) xs ++ flooded (get_or xs (length xs - 1) default_glyph).cluster c ys) cluster
    ∙ ap (λ c. merge level s (length xs) xs ++ flooded c m ys) (sym (last_of_rest s xs two))
    ∙ ap (λ gs. gs ++ flooded (last_cluster middle) m ys) alone
    ∙ append_assoc before (map (in_cluster m) middle ++ []) (flooded (last_cluster middle) m ys)
    ∙ ap (λ gs. before ++ (gs ++ flooded (last_cluster middle) m ys)) (append-nil (map (in_cluster m) middle))
    ∙ sym (as_assembled level s xs ys on two)
