-- A text, cluster after cluster.
use Rattle.std.proofs.Common.{◌≡◌, ◌+◌, ◌-◌, ◌<◌, ◌≤◌, ℕ, suc, Bool, true, false, cond, List, [], ◌∷◌, ◌++◌, length, take, drop, refl, sym, ap, ◌∙◌, arith}
use Rattle.std.specs.List.{flat_map, prefix_len}
use Rattle.std.proofs.lemmas.Bool.{eqb-true}
use Rattle.std.proofs.lemmas.List.{append_assoc, drop-drop, drop_at, length-append, length-drop, length-map, length-take-le, take_at}
use Rattle.shapers_buffer.specs.declared.buffer.flags.BufferFlags.{BufferFlags}
use Rattle.shapers_buffer.specs.Glyphs.{Glyph, Glyphs}
use Rattle.shapers_buffer.specs.Clusters.{first_cluster, has_cluster, with_stretch}
use Rattle.shapers_position.specs.ClusterFlags.{cluster_groups, flags_propagated, flags_shared, group_with_first}

-- the first group is the longest sequence of the first cluster
pub opens_with_group : (g : Glyph) (gs : Glyphs) →
    cluster_groups (g ∷ gs) ≡ (g ∷ take (prefix_len (has_cluster g.cluster) gs) gs) ∷
    cluster_groups (drop (prefix_len (has_cluster g.cluster) gs) gs)
opens_with_group g [] = refl
opens_with_group g (h ∷ hs) =
    let c = g.cluster in
    let k = prefix_len (has_cluster c) hs in
    let j = prefix_len (has_cluster h.cluster) hs in
    let next : 1 + k ≡ suc k = omega arith in
    let behind : cluster_groups (h ∷ hs) ≡ (h ∷ take j hs) ∷ cluster_groups (drop j hs) = opens_with_group h hs in
    let by : (b : Bool) → has_cluster c h ≡ b → cond b ((g ∷ h ∷ take j hs) ∷ cluster_groups (drop j hs)) ((g ∷ []) ∷
    (h ∷ take j hs) ∷ cluster_groups (drop j hs)) ≡ (g ∷ take (cond b (1 + k) 0) (h ∷ hs)) ∷
    cluster_groups (drop (cond b (1 + k) 0) (h ∷ hs)) = λ b.
    elim b as (λ b. has_cluster c h ≡ b → cond b ((g ∷ h ∷ take j hs) ∷ cluster_groups (drop j hs)) ((g ∷ []) ∷
    (h ∷ take j hs) ∷ cluster_groups (drop j hs)) ≡ (g ∷ take (cond b (1 + k) 0) (h ∷ hs)) ∷
    cluster_groups (drop (cond b (1 + k) 0) (h ∷ hs))) [
      | true ↦ λ e.
          ap (λ c. (g ∷ h ∷ take (prefix_len (has_cluster c) hs) hs) ∷
          cluster_groups (drop (prefix_len (has_cluster c) hs) hs)) (eqb-true h.cluster c e)
          ∙ sym (ap (λ n. (g ∷ take n (h ∷ hs)) ∷ cluster_groups (drop n (h ∷ hs))) next)
      | false ↦ λ e. ap (λ cs. (g ∷ []) ∷ cs) (sym behind)
    ] in
    ap (group_with_first g) behind ∙ by (has_cluster c h) refl

groups_open : (gs : Glyphs) (n : ℕ) → 0 < length gs →
    n ≡ 1 + prefix_len (has_cluster (first_cluster gs)) (drop 1 gs) → cluster_groups gs ≡ take n gs ∷
    cluster_groups (drop n gs)
groups_open [] n some is = absurd (omega arith)
groups_open (g ∷ gs) n some is =
    let k = prefix_len (has_cluster g.cluster) gs in
    let next : n ≡ suc k = is ∙ omega arith in
    opens_with_group g gs ∙ sym (ap (λ n. take n (g ∷ gs) ∷ cluster_groups (drop n (g ∷ gs))) next)

-- the text from one place on, by what becomes of its first cluster
propagated_open : (wanted : BufferFlags) (gs : Glyphs) (n : ℕ) → 0 < length gs →
    n ≡ 1 + prefix_len (has_cluster (first_cluster gs)) (drop 1 gs) →
    flags_propagated wanted gs ≡ flags_shared wanted (take n gs) ++ flags_propagated wanted (drop n gs)
propagated_open wanted gs n some is = ap (flat_map (flags_shared wanted)) (groups_open gs n some is)

-- a stretch that is changed and keeps its length, and what becomes of the text behind it
stretch_changed : {X : Type 0} (f h : List X → List X) (s n : ℕ) (xs : List X) → s + n ≤ length xs →
    length (f (take n (drop s xs))) ≡ n →
    let ys = with_stretch s (s + n) f xs in
    take (s + n) ys ++ h (drop (s + n) ys) ≡ take s xs ++ (f (take n (drop s xs)) ++ h (drop (s + n) xs))
stretch_changed f h s n xs within same =
    let size : s + n - s ≡ n = omega arith in
    let front = take s xs in
    let middle = f (take n (drop s xs)) in
    let rest = drop (s + n) xs in
    let whole : with_stretch s (s + n) f xs ≡ (front ++ middle) ++ rest =
    ap (λ k. front ++ (f (take k (drop s xs)) ++ rest)) size ∙ sym (append_assoc front middle rest) in
    let long : length (front ++ middle) ≡ s + n = omega
    (arith, length-append front middle, length-take-le s xs (omega arith), same) in
    ap (λ ys. take (s + n) ys ++ h (drop (s + n) ys)) whole
    ∙ ap (λ ys. ys ++ h (drop (s + n) ((front ++ middle) ++ rest))) (take_at (front ++ middle) rest (s + n) long)
    ∙ ap (λ ys. (front ++ middle) ++ h ys) (drop_at (front ++ middle) rest (s + n) long)
    ∙ append_assoc front middle (h rest)

-- one more cluster
pub cluster_next : (wanted : BufferFlags) (gs : Glyphs) (s n : ℕ) → s < length gs → s + n ≤ length gs →
    n ≡ 1 + prefix_len (has_cluster (first_cluster (drop s gs))) (drop 1 (drop s gs)) →
    let hs = with_stretch s (s + n) (flags_shared wanted) gs in
    take (s + n) hs ++ flags_propagated wanted (drop (s + n) hs) ≡ take s gs ++ flags_propagated wanted (drop s gs)
cluster_next wanted gs s n inside within is =
    let rest = drop s gs in
    let some : 0 < length rest = omega (arith, length-drop s gs) in
    let short : length (take n rest) ≡ n = length-take-le n rest (omega (arith, length-drop s gs)) in
    stretch_changed (flags_shared wanted) (flags_propagated wanted) s n gs within (length-map (take n rest) _ ∙ short)
    ∙ ap (λ xs. take s gs ++ (flags_shared wanted (take n rest) ++ flags_propagated wanted xs)) (sym (drop-drop n s gs))
    ∙ ap (λ xs. take s gs ++ xs) (sym (propagated_open wanted rest n some is))
