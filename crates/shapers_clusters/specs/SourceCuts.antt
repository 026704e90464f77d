-- Made and dropped glyphs, each with its source.
use Rattle.std.proofs.Common.{ℕ, ◌-◌, ◌<◌, ◌≤◌, ◌≡◌, List, length, ◌≢◌, ◌↔◌, min, max, slice_index}
use Rattle.shapers_clusters.specs.Cuts.{SameBlock}
use Rattle.shapers_clusters.specs.Steps.{HeldBetween}

-- Exact cuts seen through sources: the clusters change exactly where the sources change from one
-- block to another, and each place has the least old cluster of its source's block.
pub record ExactCutsBy (cs : List ℕ) (sts : List (ℕ × ℕ)) (sources after : List ℕ) : Type 0 where
  pub as_many : length after ≡ length sources
  pub cuts : (i : ℕ) →
      0 < i → i < length sources →
      (slice_index after (i - 1) ≢ slice_index after i) ↔
      (SameBlock cs sts (slice_index sources (i - 1)) (slice_index sources i) → ⊥)
  pub reached : (i : ℕ) →
      i < length sources →
      (q : ℕ) × (q < length cs) × SameBlock cs sts (slice_index sources i) q
      × (slice_index after i ≡ slice_index cs q)
  pub least : (i q : ℕ) →
      i < length sources → q < length cs → SameBlock cs sts (slice_index sources i) q →
      slice_index after i ≤ slice_index cs q

-- the stretches hold together, neighbour by neighbour, the sources of all places from i to j
abbrev pub HeldAlong : List (ℕ × ℕ) → List ℕ → ℕ → ℕ → Type 0
HeldAlong sts sources i j =
    (k : ℕ) → min i j < k → k ≤ max i j →
    HeldBetween sts (slice_index sources (k - 1)) (slice_index sources k)

-- each place takes what stood within the same merged stretches, seen through the sources that stand
-- there
abbrev pub MovesInsideOf : List (ℕ × ℕ) → List ℕ → List ℕ → Type 0
MovesInsideOf sts standing places =
    (i : ℕ) → i < length places → HeldAlong sts standing i (slice_index places i)
