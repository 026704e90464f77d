-- Steps: merges and moves of places.
use Rattle.std.proofs.Common.{ℕ, ◌+◌, ◌-◌, ◌<◌, ◌≤◌, ◌≡◌, ◌++◌, ◌⊎◌, min, max, true, List, [], map, length, slice_index, ◌∷◌, take, drop}
use Rattle.std.specs.List.{fold, AllByRecursion, flat_map, range_with_len}
use Rattle.shapers_buffer.specs.Glyphs.{Glyphs}
use Rattle.shapers_buffer.specs.declared.buffer.level.BufferClusterLevel.{BufferClusterLevel}
use Rattle.shapers_buffer.specs.Places.{pick}
use Rattle.shapers_buffer.specs.Clusters.{merge_all}
use Rattle.shapers_clusters.specs.ClusterMerges.{joined_all}
use Rattle.shapers_clusters.specs.Cuts.{EndWithin, held}
use Rattle.std.specs.List.Sorted.{IsPermutation}
use Rattle.std.specs.Prelude.{swap}

-- One step: stretches merge, the glyphs of the listed places come in that order, stretches merge.
pub record Step : Type 0 where
  pub merged_first : List (ℕ × ℕ)
  pub places : List ℕ
  pub merged_then : List (ℕ × ℕ)

-- the glyphs after one step, and after several, one after another
abbrev pub after_step : BufferClusterLevel → Step → Glyphs → Glyphs
after_step level step gs =
    merge_all level step.merged_then (pick step.places (merge_all level step.merged_first gs))

abbrev pub after_steps : BufferClusterLevel → List Step → Glyphs → Glyphs
after_steps level steps gs = fold (λ gs step. after_step level step gs) gs steps

-- the same of clusters alone
abbrev pub joined_step : BufferClusterLevel → Step → List ℕ → List ℕ
joined_step level step cs =
    joined_all level step.merged_then (pick step.places (joined_all level step.merged_first cs))

abbrev pub joined_steps : BufferClusterLevel → List Step → List ℕ → List ℕ
joined_steps level steps cs = fold (λ cs step. joined_step level step cs) cs steps

-- of the old places so far, for each place after the steps the old place of what stands there
abbrev pub moved_on : List Step → List ℕ → List ℕ
moved_on steps places = fold (λ places step. pick step.places places) places steps

-- for each of n places after the steps the place before them
abbrev pub old_places : ℕ → List Step → List ℕ
old_places n steps = moved_on steps (range_with_len 0 n)

-- a step of n places: it takes as many of them, and merges no others
pub record FitsStep (n : ℕ) (step : Step) : Type 0 where
  pub as_many : length step.places ≡ n
  pub within : AllByRecursion (λ p. p < n) step.places
  pub first_within : EndWithin n step.merged_first
  pub then_within : EndWithin n step.merged_then

abbrev pub FitSteps : ℕ → List Step → Type 0
FitSteps n steps = AllByRecursion (FitsStep n) steps

-- the stretches merge with neighbours, without a gap, from p to q
abbrev pub HeldBetween : List (ℕ × ℕ) → ℕ → ℕ → Type 0
HeldBetween sts p q = (r : ℕ) → min p q < r → r ≤ max p q → held sts r ≡ true

-- each place takes what stood within the same merged stretches
abbrev pub MovesInside : List (ℕ × ℕ) → List ℕ → Type 0
MovesInside sts places = (p : ℕ) → p < length places → HeldBetween sts p (slice_index places p)

-- a step of n places that moves only inside what it merged first, and merges nothing then
pub record MovesMerged (n : ℕ) (step : Step) : Type 0 where
  pub fits : FitsStep n step
  pub inside : MovesInside step.merged_first step.places
  pub nothing_then : step.merged_then ≡ []

-- all stretches that the steps merge first, one after another
abbrev pub all_first : List Step → List (ℕ × ℕ)
all_first steps = flat_map (λ step. step.merged_first) steps

-- all stretches that steps merge, one after another
abbrev pub all_merged : List Step → List (ℕ × ℕ)
all_merged steps = flat_map (λ step. step.merged_first ++ step.merged_then) steps

-- the step leaves each place of a stretch; or it moves inside what it merged first
abbrev pub StaysAt : ℕ × ℕ → Step → Type 0
StaysAt st step = (p : ℕ) → st.0 ≤ p → p < st.1 → slice_index step.places p ≡ p

abbrev pub Spares : ℕ → ℕ × ℕ → Step → Type 0
Spares n st step = StaysAt st step ⊎ MovesMerged n step

-- Steps of n places that spare what those before them merged; each merges only behind its moves, or
-- moves inside what it merged first.
abbrev pub SpareMerged : ℕ → List Step → Type 0
SpareMerged n [] = Unit {0}
SpareMerged n (step ∷ steps) =
    ((step.merged_first ≡ []) ⊎ MovesMerged n step)
    × AllByRecursion (λ st. AllByRecursion (Spares n st) steps)
    (step.merged_first ++ step.merged_then) × SpareMerged n steps

-- stretches and steps over the places s..e of n places, of which they number the first by 0
abbrev pub shifted : ℕ → List (ℕ × ℕ) → List (ℕ × ℕ)
shifted s sts = map (λ st. (s + st.0, s + st.1)) sts

abbrev pub widened : ℕ → ℕ → ℕ → Step → Step
widened s e n step = record {
  merged_first = shifted s step.merged_first;
  places = range_with_len 0 s ++ (map (λ p. s + p) step.places ++ range_with_len e (n - e));
  merged_then = shifted s step.merged_then;
}

-- the step takes each of n places once
abbrev pub Permutes : ℕ → Step → Type 0
Permutes n step = IsPermutation (range_with_len 0 n) step.places

-- The steps of neighbouring stretches, given by their lengths, from place s on, over n places.
abbrev pub steps_along : ℕ → ℕ → List (ℕ × List Step) → List Step
steps_along n s [] = []
steps_along n s (piece ∷ rest) =
    map (widened s (s + piece.0) n) piece.1 ++ steps_along n (s + piece.0) rest

-- a list whose neighbouring stretches are reordered by their steps, each for itself
abbrev pub reordered_along : {X : Type 0} → List (ℕ × List Step) → List X → List X
reordered_along [] xs = xs
reordered_along (piece ∷ rest) xs =
    pick (old_places piece.0 piece.1) (take piece.0 xs) ++ reordered_along rest (drop piece.0 xs)

-- the step of n places in which nothing moves
abbrev pub still_step : ℕ → Step
still_step n = record { merged_first = []; places = range_with_len 0 n; merged_then = [] }

-- the step of n places in which place i and the next one merge and change places
abbrev pub swap_step : ℕ → ℕ → Step
swap_step n i = record {
  merged_first = (i, i + 2) ∷ [];
  places = swap (range_with_len 0 n) i (i + 1);
  merged_then = [];
}
