-- Labels: what glyphs of one cluster have in common.
use Rattle.std.proofs.Common.{ℕ, ◌<◌, ◌≡◌, List, [], ◌∷◌, length, slice_index}
use Rattle.std.specs.List.{AllByRecursion}
use Rattle.shapers_buffer.specs.declared.buffer.level.BufferClusterLevel.{BufferClusterLevel}
use Rattle.shapers_buffer.specs.Places.{pick}
use Rattle.shapers_clusters.specs.Cuts.{OneAlong}
use Rattle.shapers_clusters.specs.Steps.{Step, all_merged, joined_steps}

-- labels, one per place, where places of equal cluster have equal labels
pub record IsLabelled (cs ls : List ℕ) : Type 0 where
  pub as_many : length ls ≡ length cs
  pub agree : (p q : ℕ) →
      p < length cs → q < length cs → slice_index cs p ≡ slice_index cs q →
      slice_index ls p ≡ slice_index ls q

-- each place has the cluster and the label of one and the same old place
abbrev pub OfOldPlaces : List ℕ → List ℕ → List ℕ → List ℕ → Type 0
OfOldPlaces cs ls js ms = (p : ℕ) →
    p < length js →
    (q : ℕ) × (q < length cs) × (slice_index js p ≡ slice_index cs q)
    × (slice_index ms p ≡ slice_index ls q)

-- each stretch has one label as it merges; the labels move with the glyphs
abbrev pub OneLabelEach : List Step → List ℕ → Type 0
OneLabelEach [] ls = Unit {0}
OneLabelEach (step ∷ steps) ls =
    AllByRecursion (OneAlong ls) step.merged_first
    × AllByRecursion (OneAlong (pick step.places ls)) step.merged_then
    × OneLabelEach steps (pick step.places ls)

-- each stretch of places that these steps merge is in one cluster when all are done
abbrev pub MergedStay : BufferClusterLevel → List Step → List ℕ → Type 0
MergedStay level steps cs =
    AllByRecursion (OneAlong (joined_steps level steps cs)) (all_merged steps)
