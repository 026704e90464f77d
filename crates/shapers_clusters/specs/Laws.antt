-- The laws of clusters and glyph flags, as statements.
use Rattle.std.proofs.Common.{ℕ, ◌+◌, ◌++◌, ◌-◌, ◌<◌, ◌≤◌, ◌≡◌, Bool, true, false, List, ◌∷◌, map, length, slice_index, take, drop}
use Rattle.std.specs.List.Sorted.{IsPermutation}
use Rattle.std.specs.List.{sum_by, All, AllByRecursion, AllZip, Contains}
use Rattle.shapers_buffer.specs.Glyphs.{Glyph, Glyphs}
use Rattle.shapers_buffer.specs.declared.buffer.level.BufferClusterLevel.{BufferClusterLevel}
use Rattle.shapers_buffer.specs.Glyph.{clusters, order_view}
use Rattle.shapers_buffer.specs.Clusters.{least, low, high, merge, merge_all, merges, stretch_of}
use Rattle.shapers_buffer.specs.GlyphFlags.{unsafe_inside, unsafe_to_concat_in, tatweel_inside, FlagCall, flags_called}
use Rattle.shapers_clusters.specs.ClusterMerges.{joined_all}
use Rattle.shapers_clusters.specs.Cuts.{AllDifferent, EndWithin, ExactCuts, IsMonotone, OneAlong, ShareCluster, ShareNone, StandsApart}
use Rattle.shapers_buffer.specs.Places.{pick}
use Rattle.shapers_clusters.specs.Steps.{Step, after_steps, joined_steps, old_places, FitSteps, MovesMerged, all_first, all_merged, SpareMerged, widened, steps_along, reordered_along, Permutes}
use Rattle.shapers_clusters.specs.Flags.{FallsTo, FlagsFall, FlagsAlone, InOrder, ShowsClusters, HidesFields, seen}
use Rattle.shapers_clusters.specs.SourceCuts.{ExactCutsBy, HeldAlong, MovesInsideOf}
use Rattle.shapers_clusters.specs.Labels.{IsLabelled, OfOldPlaces, OneLabelEach}

-- Merges of any stretch at any level leave the order view of the glyphs gs; the three flag calls,
-- whatever the buffer wants, change nothing but glyph flags, and take none away.
pub record ViewStays (s e : ℕ) (gs : Glyphs) : Type 0 where
  pub merging : (level : BufferClusterLevel) → order_view (merge level s e gs) ≡ order_view gs
  pub breaking : FlagsAlone gs (unsafe_inside s e gs)
  pub concatenating : (asked : Bool) → FlagsAlone gs (unsafe_to_concat_in asked s e gs)
  pub joining : (asked : Bool) → FlagsAlone gs (tatweel_inside asked s e gs)

abbrev pub ViewLaw : Type 0
ViewLaw = (s e : ℕ) (gs : Glyphs) → s ≤ e → ViewStays s e gs

-- Any list of flag calls, of all three kinds mixed, whatever the buffer wants: nothing but glyph
-- flags changes, and none is lost.
abbrev pub FlagCallsLaw : Type 0
FlagCallsLaw = (concat tatweel : Bool) (calls : List FlagCall) (gs : Glyphs) →
    AllByRecursion InOrder calls →
    FlagsAlone gs (flags_called concat tatweel calls gs)

-- What one merge of s..e makes of the glyphs gs: ms. Nothing but clusters and glyph flags changes.
-- No cluster rises, and a glyph keeps its flags unless its cluster fell. Every cluster is one that
-- was there. Before low and from high on the glyphs stay; all between, which holds the stretch,
-- have its least cluster. Neighbours that shared a cluster still do. Labels that the stretch and
-- the clusters respect are still respected.
pub record MergeHolds (level : BufferClusterLevel) (s e : ℕ) (gs ms : Glyphs) : Type 0 where
  pub same_length : length ms ≡ length gs
  pub same_view : order_view ms ≡ order_view gs
  pub falls : AllZip FallsTo gs ms
  pub old_clusters : All (Contains (clusters gs)) (clusters ms)
  pub before : take (low s e gs) ms ≡ take (low s e gs) gs
  pub behind : drop (high s e gs) ms ≡ drop (high s e gs) gs
  pub inside : merges level ≡ true →
      1 < e - s → (p : ℕ) → low s e gs ≤ p → p < high s e gs →
      slice_index (clusters ms) p ≡ least (clusters (stretch_of s e gs))
  pub neighbours : (p q : ℕ) → p < length gs → q < length gs → ShareCluster (clusters gs) p q →
      ShareCluster (clusters ms) p q
  pub labels : (ls : List ℕ) → IsLabelled (clusters gs) ls → OneAlong ls (s, e) →
      IsLabelled (clusters ms) ls
  pub unmerged : merges level ≡ false → ms ≡ gs

abbrev pub MergeLaw : Type 0
MergeLaw = (level : BufferClusterLevel) (s e : ℕ) (gs : Glyphs) →
    e ≤ length gs →
    MergeHolds level s e gs (merge level s e gs)

-- After merges of clusters that never decrease, or never increase, the cuts are exact, the clusters
-- still do so, and no other clusters have exact cuts.
abbrev pub ExactCutsLaw : Type 0
ExactCutsLaw = (level : BufferClusterLevel) (sts : List (ℕ × ℕ)) (gs : Glyphs) →
    merges level ≡ true → EndWithin (length gs) sts → IsMonotone (clusters gs) →
    ExactCuts (clusters gs) sts (clusters (merge_all level sts gs))
    × IsMonotone (clusters (merge_all level sts gs))
    × ((js : List ℕ) → ExactCuts (clusters gs) sts js → js ≡ clusters (merge_all level sts gs))

-- What any steps make of the glyphs gs: ms. Each glyph, followed from its old place, keeps all but
-- cluster and glyph flags; its cluster doesn't rise, and it keeps its flags unless the cluster
-- fell. The clusters are what the steps make of the old ones. Where the level merges nothing,
-- glyphs only move.
pub record StepsHold (level : BufferClusterLevel) (steps : List Step)
    (gs ms : Glyphs) : Type 0 where
  pub same_length : length ms ≡ length gs
  pub moved_view : order_view ms ≡ pick (old_places (length gs) steps) (order_view gs)
  pub falls : AllZip FallsTo (pick (old_places (length gs) steps) gs) ms
  pub clusters_are : clusters ms ≡ joined_steps level steps (clusters gs)
  pub unmerged : merges level ≡ false → ms ≡ pick (old_places (length gs) steps) gs

abbrev pub StepsLaw : Type 0
StepsLaw = (level : BufferClusterLevel) (steps : List Step) (gs : Glyphs) →
    FitSteps (length gs) steps →
    StepsHold level steps gs (after_steps level steps gs)

-- Steps that take each place once lose no glyph: the order view is the old one in some order.
abbrev pub PermutedLaw : Type 0
PermutedLaw = (level : BufferClusterLevel) (steps : List Step) (gs : Glyphs) →
    FitSteps (length gs) steps → AllByRecursion (Permutes (length gs)) steps →
    IsPermutation (order_view gs) (order_view (after_steps level steps gs))

-- What any steps make of the clusters cs: js. Every cluster is one that was there. Labels that each
-- stretch respects as it merges are respected in the end, and each cluster is then that of an old
-- place with the same label. Where the level merges nothing, clusters only move.
pub record ClustersHold (level : BufferClusterLevel) (steps : List Step) (cs js : List
    ℕ) : Type 0 where
  pub same_length : length js ≡ length cs
  pub old_clusters : All (Contains cs) js
  pub labels : (ls : List ℕ) → IsLabelled cs ls → OneLabelEach steps ls →
      IsLabelled js (pick (old_places (length cs) steps) ls)
  pub of_labels : (ls : List ℕ) → IsLabelled cs ls → OneLabelEach steps ls →
      OfOldPlaces cs ls js (pick (old_places (length cs) steps) ls)
  pub unmerged : merges level ≡ false → js ≡ pick (old_places (length cs) steps) cs

abbrev pub ClustersLaw : Type 0
ClustersLaw = (level : BufferClusterLevel) (steps : List Step) (cs : List ℕ) →
    FitSteps (length cs) steps →
    ClustersHold level steps cs (joined_steps level steps cs)

-- What steps that move only inside what they merged first make of clusters, at levels that merge:
-- the old ones, merged; one cluster from each place to where its glyph came from. Exact cuts.
pub record MergedStepsHold (level : BufferClusterLevel) (steps : List Step) (cs js : List
    ℕ) : Type 0 where
  pub only_merged : js ≡ joined_all level (all_first steps) cs
  pub cluster_law : (p : ℕ) → p < length cs →
      ShareCluster js p (slice_index (old_places (length cs) steps) p)
  pub exact : IsMonotone cs → ExactCuts cs (all_first steps) js

abbrev pub MergedStepsLaw : Type 0
MergedStepsLaw = (level : BufferClusterLevel) (steps : List Step) (cs : List ℕ) →
    merges level ≡ true → AllByRecursion (MovesMerged (length cs)) steps →
    MergedStepsHold level steps cs (joined_steps level steps cs)

-- What steps that take each place once and spare what those before them merged make of the clusters
-- cs, at the levels that merge: js. Each stretch that they merge is in one cluster in the end.
-- Where all clusters are different no more is merged: the cuts are exact, and each stretch so
-- joined has the least cluster that the glyphs now in it had.
pub record SparedStepsHold (steps : List Step) (cs js : List ℕ) : Type 0 where
  pub merged : AllByRecursion (OneAlong js) (all_merged steps)
  pub exact : AllDifferent cs →
      ExactCuts (pick (old_places (length cs) steps) cs) (all_merged steps) js

abbrev pub SparedStepsLaw : Type 0
SparedStepsLaw = (level : BufferClusterLevel) (steps : List Step) (cs : List ℕ) →
    merges level ≡ true → FitSteps (length cs) steps → AllByRecursion (Permutes (length cs)) steps →
    SpareMerged (length cs) steps →
    SparedStepsHold steps cs (joined_steps level steps cs)

-- What steps that move only inside what they merged first make of the clusters, at every level. Of
-- a hook of which only the clusters are known, this is the law.
pub record ClustersReordered (level : BufferClusterLevel) (steps : List Step) (cs js : List
    ℕ) : Type 0 where
  pub at_all_levels : ClustersHold level steps cs js
  pub where_merging : merges level ≡ true → MergedStepsHold level steps cs js

abbrev pub ClustersReorderedLaw : Type 0
ClustersReorderedLaw = (level : BufferClusterLevel) (steps : List Step) (cs : List ℕ) →
    AllByRecursion (MovesMerged (length cs)) steps →
    ClustersReordered level steps cs (joined_steps level steps cs)

-- What a hook makes of the glyphs gs that takes steps and besides changes other fields: ms. Through
-- a view that hides these it is the steps' result; so through it each glyph, followed from its old
-- place, keeps all but cluster and glyph flags. No cluster rises, and glyph flags stay unless it
-- fell. The clusters are what the steps make of the old ones.
pub record SeenStepsHold (view : Glyph →
    Glyph) (level : BufferClusterLevel) (steps : List Step) (gs ms : Glyphs) : Type 0 where
  pub result : map view ms ≡ map view (after_steps level steps gs)
  pub same_length : length ms ≡ length gs
  pub moved_view : seen view ms ≡ pick (old_places (length gs) steps) (seen view gs)
  pub falls : AllZip FlagsFall (pick (old_places (length gs) steps) gs) ms
  pub clusters_are : clusters ms ≡ joined_steps level steps (clusters gs)
  pub in_clusters : ClustersHold level steps (clusters gs) (clusters ms)
  pub unmerged : merges level ≡ false →
      map view ms ≡ map view (pick (old_places (length gs) steps) gs)

abbrev pub SeenStepsLaw : Type 0
SeenStepsLaw = (view : Glyph → Glyph) →
    HidesFields view →
    (level : BufferClusterLevel) (steps : List Step) (gs ms : Glyphs) →
    FitSteps (length gs) steps → map view ms ≡ map view (after_steps level steps gs) →
    SeenStepsHold view level steps gs ms

-- What a hook that reorders promises, through a view that hides what else it changes, by steps that
-- move only inside what they merged first: no glyph is lost, and the laws of steps hold.
pub record ReorderedHold (view : Glyph →
    Glyph) (level : BufferClusterLevel) (steps : List Step) (gs ms : Glyphs) : Type 0 where
  pub kept : IsPermutation (seen view gs) (seen view ms)
  pub glyphs : SeenStepsHold view level steps gs ms
  pub where_merging : merges level ≡ true → MergedStepsHold level steps (clusters gs) (clusters ms)

abbrev pub ReorderedLaw : Type 0
ReorderedLaw = (view : Glyph → Glyph) →
    HidesFields view →
    (level : BufferClusterLevel) (steps : List Step) (gs ms : Glyphs) →
    AllByRecursion (MovesMerged (length gs)) steps → AllByRecursion (Permutes (length gs)) steps →
    map view ms ≡ map view (after_steps level steps gs) →
    ReorderedHold view level steps gs ms

-- Steps over the stretch s..e are steps over all places: they fit, they move only inside what they
-- merged first, and take each place once, if they did, and their order view is that of the stretch,
-- reordered, between what stood before and behind it.
pub record WidenedHolds (level : BufferClusterLevel) (s e : ℕ) (steps : List Step)
    (gs : Glyphs) : Type 0 where
  pub fit : FitSteps (length gs) (map (widened s e (length gs)) steps)
  pub merged : AllByRecursion (MovesMerged (e - s)) steps →
      AllByRecursion (MovesMerged (length gs)) (map (widened s e (length gs)) steps)
  pub permuted : AllByRecursion (Permutes (e - s)) steps →
      AllByRecursion (Permutes (length gs)) (map (widened s e (length gs)) steps)
  pub view : order_view (after_steps level (map (widened s e (length gs)) steps) gs)
      ≡ take s (order_view gs)
      ++ (pick (old_places (e - s) steps) (stretch_of s e (order_view gs))
      ++ drop e (order_view gs))

abbrev pub WidenedLaw : Type 0
WidenedLaw =
    (level : BufferClusterLevel) (s e : ℕ) (steps : List Step) (gs : Glyphs) →
    s ≤ e → e ≤ length gs → FitSteps (e - s) steps →
    WidenedHolds level s e steps gs

-- Steps of neighbouring stretches, one after another from place 0, are steps over all places: they
-- fit, they move only inside what they merged first, and take each place once, if they did, and
-- each stretch of the order view is reordered for itself.
pub record AlongHolds (level : BufferClusterLevel) (pieces : List (ℕ × List Step))
    (gs : Glyphs) : Type 0 where
  pub fit : FitSteps (length gs) (steps_along (length gs) 0 pieces)
  pub merged : AllByRecursion (λ piece. AllByRecursion (MovesMerged piece.0) piece.1) pieces →
      AllByRecursion (MovesMerged (length gs)) (steps_along (length gs) 0 pieces)
  pub permuted : AllByRecursion (λ piece. AllByRecursion (Permutes piece.0) piece.1) pieces →
      AllByRecursion (Permutes (length gs)) (steps_along (length gs) 0 pieces)
  pub view : order_view (after_steps level (steps_along (length gs) 0 pieces) gs)
      ≡ reordered_along pieces (order_view gs)

abbrev pub AlongLaw : Type 0
AlongLaw =
    (level : BufferClusterLevel) (pieces : List (ℕ × List Step)) (gs : Glyphs) →
    sum_by (λ piece. piece.0) pieces ≤ length gs →
    AllByRecursion (λ piece. FitSteps piece.0 piece.1) pieces →
    AlongHolds level pieces gs

-- The clusters js of made glyphs, from the old clusters cs: each is that of its source after the
-- merges. So every cluster is one that was there, and where the level merges nothing each glyph has
-- its source's own. At the levels that merge, places whose sources the merged stretches hold
-- together share one cluster; exact cuts seen through the sources.
pub record ClustersMade (level : BufferClusterLevel) (sts : List (ℕ × ℕ)) (sources cs js : List
    ℕ) : Type 0 where
  pub clusters_are : js ≡ pick sources (joined_all level sts cs)
  pub old_clusters : All (Contains cs) js
  pub unmerged : merges level ≡ false → js ≡ pick sources cs
  pub share : merges level ≡ true → (i j : ℕ) →
      i < length sources → j < length sources → HeldAlong sts sources i j →
      ShareCluster js i j
  pub exact : merges level ≡ true → IsMonotone cs → ExactCutsBy cs sts sources js

-- Made and dropped glyphs rs: to a view that shows clusters and glyph flags, each is what stands
-- after the merges at a listed old place, its source, whatever else the hook changes. No cluster
-- rises, and glyph flags stay unless it fell.
pub record MadeHold (view : Glyph →
    Glyph) (level : BufferClusterLevel) (sts : List (ℕ × ℕ)) (sources : List ℕ) (gs rs :
    Glyphs) : Type 0 where
  pub as_many : length rs ≡ length sources
  pub clusters_made : ClustersMade level sts sources (clusters gs) (clusters rs)
  pub falls : AllZip FlagsFall (pick sources gs) rs
  pub unmerged : merges level ≡ false → map view rs ≡ map view (pick sources gs)

abbrev pub MadeLaw : Type 0
MadeLaw = (view : Glyph → Glyph) →
    ShowsClusters view →
    (level : BufferClusterLevel) (sts : List (ℕ × ℕ)) (sources : List ℕ)
    (gs rs : Glyphs) →
    EndWithin (length gs) sts → AllByRecursion (λ p. p < length gs) sources →
    map view rs ≡ map view (pick sources (merge_all level sts gs)) →
    MadeHold view level sts sources gs rs

-- Made glyphs that move: where each stands at first in its source's place, and moves go only inside
-- what merged, the clusters stay as they stood, and all places between a glyph's new place and the
-- one where it stood share one cluster.
abbrev pub MovedSourcesLaw : Type 0
MovedSourcesLaw = (level : BufferClusterLevel) (sts : List (ℕ × ℕ)) (standing places : List ℕ)
    (gs : Glyphs) →
    merges level ≡ true → EndWithin (length gs) sts → AllByRecursion (λ p. p < length gs) standing →
    length places ≡ length standing → AllByRecursion (λ p. p < length standing) places →
    MovesInsideOf sts standing places →
    (clusters (pick (pick places standing) (merge_all level sts gs))
    ≡ clusters (pick standing (merge_all level sts gs)))
    × ((i : ℕ) → i < length standing →
    ShareCluster (clusters (pick (pick places standing) (merge_all level sts gs))) i
    (slice_index places i))

-- Two halves of a text, cut between two stretches, that share no cluster: the steps of the whole
-- give the halves' results joined.
abbrev pub HalvesLaw : Type 0
HalvesLaw =
    (level : BufferClusterLevel) (ps qs : List (ℕ × List Step)) (gs hs : Glyphs) →
    sum_by (λ piece. piece.0) ps ≡ length gs → sum_by (λ piece. piece.0) qs ≡ length hs →
    AllByRecursion (λ piece. FitSteps piece.0 piece.1) ps →
    AllByRecursion (λ piece. FitSteps piece.0 piece.1) qs →
    ShareNone gs hs →
    after_steps level (steps_along (length gs + length hs) 0 (ps ++ qs)) (gs ++ hs)
    ≡ after_steps level (steps_along (length gs) 0 ps) gs
    ++ after_steps level (steps_along (length hs) 0 qs) hs

-- A stretch of a text whose clusters no place elsewhere has: the steps of the text, one stretch
-- after another, make of its clusters what its own steps make of them alone.
abbrev pub AloneLaw : Type 0
AloneLaw = (level : BufferClusterLevel) (before behind : List (ℕ × List Step))
    (piece : ℕ × List Step) (cs : List ℕ) →
    let s = sum_by (λ piece. piece.0) before in
    let e = s + piece.0 in
    e + sum_by (λ piece. piece.0) behind ≤ length cs →
    AllByRecursion (λ piece. FitSteps piece.0 piece.1) before → FitSteps piece.0 piece.1 →
    AllByRecursion (λ piece. FitSteps piece.0 piece.1) behind →
    StandsApart s e cs →
    stretch_of s e (joined_steps level (steps_along (length cs) 0 (before ++ piece ∷ behind)) cs)
    ≡ joined_steps level piece.1 (stretch_of s e cs)
