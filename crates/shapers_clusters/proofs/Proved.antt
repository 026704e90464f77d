-- The laws, proved; other crates cite these with arguments.
use Rattle.std.proofs.Common.{ℕ, ◌+◌, ◌-◌, map, true, ◌<◌, ◌≤◌, ◌≡◌, inl, inr, List, [], ◌∷◌, ◌++◌, length, get_or, slice_index, refl, sym, ◌∙◌, subst, arith, length-append}
use Rattle.std.specs.List.{All, AllByRecursion, Contains}
use Rattle.std.proofs.lemmas.Bool.{cases_lt}
use Rattle.std.proofs.lemmas.List.{length-map}
use Rattle.std.proofs.lemmas.List.Elements.{All-contains_itself}
use Rattle.shapers_buffer.specs.Glyphs.{Glyph, Glyphs}
use Rattle.shapers_buffer.specs.declared.buffer.level.BufferClusterLevel.{BufferClusterLevel}
use Rattle.shapers_buffer.specs.Glyph.{clusters}
use Rattle.shapers_buffer.specs.Clusters.{merge, merge_all, merges}
use Rattle.shapers_clusters.specs.ClusterMerges.{joined, joined_all}
use Rattle.shapers_clusters.proofs.ClusterMerges.{clusters-merge}
use Rattle.shapers_clusters.proofs.Merging.{length-merge, length-merge_all, order_view-merge}
use Rattle.shapers_clusters.specs.Cuts.{EndWithin, ShareCluster, IsMonotone, ExactCuts}
use Rattle.shapers_clusters.proofs.Neighbours.{joined_all-share, length-joined_all}
use Rattle.shapers_clusters.proofs.Cuts.{exact_cuts, one_exact, stays_rising, stays_falling}
use Rattle.shapers_buffer.specs.Places.{pick}
use Rattle.shapers_clusters.specs.Steps.{Step, after_steps, FitsStep, MovesMerged, Permutes}
use Rattle.shapers_clusters.proofs.Picks.{pick-pick, AllZip-pick, length-pick, within_at}
use Rattle.shapers_clusters.proofs.Falls.{merge_all-falls, merge-falls, all_flags_on, all_flags_fall}
use Rattle.shapers_clusters.specs.Flags.{ShowsClusters, whole}
use Rattle.shapers_clusters.proofs.Bounds.{merge-before, merge-behind, merge-inside}
use Rattle.shapers_clusters.proofs.Views.{whole_hides, seen-same, seen-after_steps, seen-permuted}
use Rattle.shapers_clusters.proofs.MadeGlyphs.{Made, AreMade, are_made, same_clusters, held_in_stretch}
use Rattle.shapers_clusters.proofs.Moves.{clusters_stay, clusters-merge_all, clusters-after_steps, order_view-after_steps, falls-after_steps, joined-merged_steps, share-moved, merge-unmerged, merge_all-unmerged, joined_all-unmerged, after_steps-unmerged, joined_steps-unmerged, end_within-all_first, merged_fits, all-joined, all-picked, all-joined_steps}
use Rattle.shapers_clusters.specs.Labels.{IsLabelled}
use Rattle.shapers_clusters.proofs.Labels.{joined-labelled, joined_steps-labels}
use Rattle.shapers_clusters.proofs.Sources.{exact_cuts_by, sources_share, clusters-picked}
use Rattle.shapers_clusters.proofs.Widened.{fits-widened, moves-widened, all_along, order_view-along}
use Rattle.shapers_clusters.proofs.Halves.{halves_along}
use Rattle.shapers_clusters.proofs.Alone.{alone_in_text}
use Rattle.shapers_clusters.proofs.Permuted.{permutes-widened}
use Rattle.shapers_clusters.specs.Laws.{HalvesLaw, MergeLaw, ExactCutsLaw, StepsLaw, ClustersLaw, MergedStepsLaw, AlongLaw, ClustersReordered, ClustersReorderedLaw, SeenStepsLaw, ReorderedHold, ReorderedLaw, ClustersMade, MadeHold, MadeLaw, MovedSourcesLaw, AloneLaw}

-- stretches end within the clusters if they do within the glyphs
ends : (sts : List (ℕ × ℕ)) (gs : Glyphs) → EndWithin (length gs) sts → EndWithin (length (clusters gs)) sts
ends = search length-map

pub merge_holds : MergeLaw
merge_holds level s e gs l =
    let cs = clusters gs in
    let n : length cs ≡ length gs = length-map gs (λ g. g.cluster) in
    let le : e ≤ length cs = omega arith in
    let all : (P : List ℕ → Type 0) → P (joined level s e cs) → P (clusters (merge level s e gs)) =
    λ P h. subst P (sym (clusters-merge level s e gs)) h in
    record {
      same_length = length-merge level s e gs l;
      same_view = order_view-merge level s e gs;
      falls = merge-falls level s e gs l;
      old_clusters =
          all (All (Contains cs)) (all-joined (Contains cs) level ((s, e) ∷ []) cs (le, tt) (All-contains_itself cs));
      before = merge-before level s e gs l;
      behind = merge-behind level s e gs l;
      inside = search merge-inside;
      neighbours = λ p q pl ql h. all (λ js. ShareCluster js p q)
          (joined_all-share level ((s, e) ∷ []) cs (le, tt) p q (omega arith) (omega arith) h);
      labels = λ ls i o. all (λ js. IsLabelled js ls) (joined-labelled level s e cs ls le i o);
      unmerged = λ m. merge-unmerged level m s e gs;
    }

pub exact_cuts_hold : ExactCutsLaw
exact_cuts_hold level sts gs m w mono =
    let cs = clusters gs in
    let is = clusters-merge_all level sts gs in
    let e =
    subst (λ js. ExactCuts cs sts js) (sym is) (exact_cuts level m sts cs (ends sts gs w) mono) in (
      e,
      subst (λ js. IsMonotone js) (sym is) (elim mono [
        | inl up ↦ inl (stays_rising level sts cs (ends sts gs w) up)
        | inr down ↦ inr (stays_falling level sts cs (ends sts gs w) down)
      ]),
      search one_exact,
    )

pub steps_hold : StepsLaw
steps_hold level steps gs f =
    let falls = falls-after_steps level steps gs f in
    search (order_view-after_steps, clusters-after_steps, after_steps-unmerged)

pub clusters_hold : ClustersLaw
clusters_hold level steps cs f =
    let all = all-joined_steps (Contains cs) level (length cs) steps cs refl f (All-contains_itself cs) in
    record {
      same_length = all.0;
      old_clusters = all.1;
      labels = λ ls i o. (joined_steps-labels level steps cs ls f i o).respected;
      of_labels =
          λ ls i o. (joined_steps-labels level steps cs ls f i o).of_old;
      unmerged =
          search joined_steps-unmerged;
    }

pub merged_steps_hold : MergedStepsLaw
merged_steps_hold = search (joined-merged_steps, share-moved, exact_cuts, end_within-all_first)

pub clusters_reordered : ClustersReorderedLaw
clusters_reordered = search (clusters_hold, merged_fits, merged_steps_hold)

pub seen_steps_hold : SeenStepsLaw
seen_steps_hold view hides level steps gs ms f same =
    let holds = steps_hold level steps gs f in
    let c = same_clusters view hides.shows (after_steps level steps gs) ms same in
    search (arith, length-map, seen-same view ms (after_steps level steps gs) same, seen-after_steps view hides level steps gs, all_flags_on, all_flags_fall, clusters_hold)

pub reordered_hold : ReorderedLaw
reordered_hold view hides level steps gs ms moves permutes same =
    let fits = merged_fits (length gs) steps moves in
    let merged = subst (ClustersReordered level steps (clusters gs)) (sym
    (seen_steps_hold view hides level steps gs ms fits same).clusters_are) (clusters_reordered
    level steps (clusters gs) (search length-map)) in
    search (seen-same view ms (after_steps level steps gs) same, seen-permuted view hides level steps gs fits permutes, seen_steps_hold view hides level steps gs ms fits same)

-- the same of the steps' own result, all of whose fields show
pub reordered_whole : (level : BufferClusterLevel) (steps : List Step) (gs : Glyphs)
    → AllByRecursion (MovesMerged (length gs)) steps → AllByRecursion (Permutes (length gs)) steps
    → ReorderedHold whole level steps gs (after_steps level steps gs)
reordered_whole = search (reordered_hold, whole_hides)

pub along_holds : AlongLaw
along_holds level pieces gs l f = record {
  fit = all_along FitsStep fits-widened (length gs) 0 pieces (omega arith) f;
  merged = λ m. all_along MovesMerged moves-widened (length gs) 0 pieces (omega arith) m;
  permuted = λ m. all_along Permutes permutes-widened (length gs) 0 pieces (omega arith) m;
  view = search (arith, order_view-along);
}

-- the clusters of made glyphs
clusters_made : (level : BufferClusterLevel) (sts : List (ℕ × ℕ)) (sources cs : List ℕ) → EndWithin (length cs) sts
    → AllByRecursion (λ p. p < length cs) sources
    → ClustersMade level sts sources cs (pick sources (joined_all level sts cs))
clusters_made = search (all-picked, length-joined_all, all-joined, All-contains_itself, joined_all-unmerged, sources_share, exact_cuts_by)

pub made_hold : MadeLaw
made_hold view shows level sts sources gs rs w v same =
    let cs = clusters gs in
    let ms = merge_all level sts gs in
    let P : ℕ → Type 0 = λ n. AllByRecursion (λ p. p < n) sources in
    let c = same_clusters view shows (pick sources ms) rs same in
    let is : clusters rs ≡ pick sources (joined_all level sts cs) =
    search (arith, clusters-picked) in
    search (
      arith,
      length-map rs view,
      length-map (pick sources ms) view,
      length-pick sources ms (subst P (sym (length-merge_all level sts gs w)) v),
      clusters_made level sts sources cs (ends sts gs w) (subst P (sym (length-map gs (λ g. g.cluster))) v),
      all_flags_on (pick sources gs) (pick sources ms) rs
          (search (all_flags_fall, AllZip-pick, merge_all-falls)) c.flags_stay,
      merge_all-unmerged,
    )

-- the same from made glyphs, each with the place that it comes of
pub made_hold_by : (view : Glyph → Glyph) → ShowsClusters view
    → (level : BufferClusterLevel) (sts : List (ℕ × ℕ)) (sources : List ℕ) (gs rs : Glyphs)
    → EndWithin (length gs) sts → (made : List (Made view (merge_all level sts gs))) → map (λ m. m.place) made ≡ sources
    → map (λ m. m.glyph) made ≡ rs → (map view rs ≡ map view (pick sources (merge_all level sts gs)))
    × MadeHold view level sts sources gs rs
made_hold_by view shows level sts sources gs rs w made places glyphs =
    let ms = merge_all level sts gs in
    let a = subst (λ ps. AreMade view ms ps rs) places
    (subst (AreMade view ms (map (λ m. m.place) made)) glyphs (are_made view ms made)) in (
      a.same,
      made_hold view shows level sts sources gs rs w
          (subst (λ n. AllByRecursion (λ p. p < n) sources) (length-merge_all level sts gs w) a.within) a.same,
    )

-- where some stretch holds the sources of a part of the result, unless that is one place, its
-- places p to q share one cluster
pub part_shares : {level : BufferClusterLevel} {sts : List (ℕ × ℕ)} {sources cs js : List ℕ}
    → ClustersMade level sts sources cs js → merges level ≡ true → (st : ℕ × ℕ) (front inside behind : List ℕ)
    → (1 < length inside → Contains sts st) → sources ≡ front ++ (inside ++ behind)
    → All (λ p. (st.0 ≤ p) × (p < st.1)) inside → (p q : ℕ) → p ≡ length front → q ≡ p + (length inside - 1)
    → ShareCluster js p q
part_shares {sts = sts} {sources = sources} {js = js} made m st front inside behind among parts all p q first last =
    let many : length sources ≡ length front + (length inside + length behind) = search (arith, length-append) in
    elim (cases_lt 1 (length inside)) [
      | inl some ↦ made.share m p q (omega arith) (omega arith)
          (held_in_stretch sts st sources front inside behind (among some) parts all p q (omega arith) (omega arith)
          (omega arith) (omega arith))
      | inr one ↦ search arith
    ]

pub moved_sources_hold : MovedSourcesLaw
moved_sources_hold level sts standing places gs m w s n v h =
    let cs = clusters gs in
    let t = subst (λ n. AllByRecursion (λ p. p < n) standing) (sym (length-map gs (λ g. g.cluster))) s in
    let is = clusters-picked level sts (pick places standing) gs
    ∙ (let js = joined_all level sts cs in let sj = subst (λ n. AllByRecursion (λ p. p < n) standing) (sym
    (length-joined_all level sts cs (ends sts gs w))) t in let k = length-pick standing js sj in sym (pick-pick
    places standing js sj) ∙ clusters_stay (pick standing js) places (n ∙ sym k) (subst (λ n. AllByRecursion (λ p. p
    < n) places) (sym k) v) (λ p l. sources_share level m sts cs standing (ends sts gs w) t p (get_or places p 0)
    (omega arith) (search (arith, within_at)) (h p (omega arith)) (get_or places p 0) (omega arith) (omega arith))) in
    let Q : (i : ℕ) → List ℕ → Type 0 = λ i js. ShareCluster js i (slice_index places i) in (
      search (arith, clusters-picked),
      λ i l. subst (Q i) (sym is) (sources_share level m sts cs standing (ends sts gs w) t i (get_or places i 0) l
          (within_at (length standing) places v i (omega arith)) (h i (omega arith))),
    )

pub halves_hold : HalvesLaw
halves_hold = search halves_along

pub alone_holds : AloneLaw
alone_holds = search alone_in_text
