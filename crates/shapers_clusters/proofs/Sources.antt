-- Made and dropped glyphs: a result that has, place by place, the clusters of listed old places, its sources.
use Rattle.std.proofs.Common.{ℕ, ◌-◌, ◌<◌, ◌≡◌, true, List, length, get_or, sym, ◌∙◌, subst, arith}
use Rattle.std.specs.List.{AllByRecursion}
use Rattle.shapers_buffer.specs.Glyphs.{Glyphs}
use Rattle.shapers_buffer.specs.declared.buffer.level.BufferClusterLevel.{BufferClusterLevel}
use Rattle.shapers_buffer.specs.Glyph.{clusters}
use Rattle.shapers_buffer.specs.Clusters.{merge_all, merges}
use Rattle.shapers_clusters.specs.ClusterMerges.{joined_all}
use Rattle.shapers_clusters.specs.Cuts.{EndWithin, ShareCluster, IsMonotone}
use Rattle.shapers_clusters.proofs.Neighbours.{length-joined_all, share_all}
use Rattle.shapers_clusters.proofs.Cuts.{exact_cuts, block_shares, between_equal}
use Rattle.shapers_buffer.specs.Places.{pick}
use Rattle.shapers_clusters.proofs.Picks.{length-pick, get_or-pick, pick-map, within_at}
use Rattle.shapers_clusters.proofs.Moves.{clusters-merge_all, held_share}
use Rattle.shapers_clusters.specs.SourceCuts.{ExactCutsBy, HeldAlong}

pub exact_cuts_by : (level : BufferClusterLevel) → merges level ≡ true → (sts : List (ℕ × ℕ)) (cs sources : List ℕ)
    → EndWithin (length cs) sts → IsMonotone cs → AllByRecursion (λ p. p < length cs) sources
    → ExactCutsBy cs sts sources (pick sources (joined_all level sts cs))
exact_cuts_by level m sts cs sources w mono s =
    let js = joined_all level sts cs in
    let n = length-joined_all level sts cs w in
    let x = exact_cuts level m sts cs w mono in
    let v = subst (λ n. AllByRecursion (λ p. p < n) sources) (sym n) s in
    let at : (i : ℕ) → i < length sources → get_or (pick sources js) i 0 ≡ get_or js (get_or sources i 0) 0 =
    search get_or-pick in
    let old : (i : ℕ) → i < length sources → get_or sources i 0 < length cs =
    search within_at in
    record {
      as_many = length-pick sources js v;
      cuts = λ i z l. (
        (λ ne b. ne (at (i - 1) (omega arith)
            ∙ sym (block_shares level m sts cs w (get_or sources (i - 1) 0) (get_or sources i 0)
            (old (i - 1) (omega arith)) (old i l) b (get_or sources i 0) (omega arith) (omega arith)) ∙ sym (at i l))),
        (λ apart eq. apart (between_equal level m sts cs w mono (get_or sources (i - 1) 0) (get_or sources i 0)
            (old (i - 1) (omega arith)) (old i l) (sym (at (i - 1) (omega arith)) ∙ eq ∙ at i l))),
      );
      reached = λ i l. let (q, ql, b, e) = x.reached (get_or sources i 0) (old i l) in (q, ql, b, at i l ∙ e);
      least = search (arith, x.least);
    }

-- places whose sources the merged stretches hold together share one cluster
pub sources_share : (level : BufferClusterLevel) → merges level ≡ true → (sts : List (ℕ × ℕ)) (cs sources : List ℕ)
    → EndWithin (length cs) sts → AllByRecursion (λ p. p < length cs) sources → (i j : ℕ) → i < length sources
    → j < length sources → HeldAlong sts sources i j → ShareCluster (pick sources (joined_all level sts cs)) i j
sources_share level m sts cs sources w s i j il jl h =
    let js = joined_all level sts cs in
    let sj = subst (λ n. AllByRecursion (λ p. p < n) sources) (sym (length-joined_all level sts cs w)) s in
    share_all (pick sources js) i j (λ r x y.
    cc (
      get_or-pick 0 sources js sj (r - 1) (omega arith),
      held_share level m sts cs w (get_or sources (r - 1) 0) (get_or sources r 0)
          (within_at (length cs) sources s (r - 1) (omega arith)) (within_at (length cs) sources s r (omega arith))
          (h r x y) (get_or sources r 0) (omega arith) (omega arith),
      get_or-pick 0 sources js sj r (omega arith),
    ))

-- the clusters and the falls of what is picked from merged glyphs
pub clusters-picked : (level : BufferClusterLevel) (sts : List (ℕ × ℕ)) (sources : List ℕ) (gs : Glyphs)
    → clusters (pick sources (merge_all level sts gs)) ≡ pick sources (joined_all level sts (clusters gs))
clusters-picked level sts sources gs =
    cc (pick-map (λ g. g.cluster) sources (merge_all level sts gs), clusters-merge_all level sts gs)
