-- Stretches, what they hold together, and exact cuts.
use Rattle.std.proofs.Common.{ℕ, ◌-◌, ◌<◌, ◌≤◌, ◌≡◌, ◌==◌, min, max, Bool, true, false, ◌||◌, nat_lt, ◌&&◌, ◌⊎◌, List, length, slice_index, ◌≢◌, ◌↔◌}
use Rattle.std.specs.List.{AllByRecursion, list_any, AllPairs}
use Rattle.shapers_buffer.specs.Glyphs.{Glyphs}
use Rattle.shapers_buffer.specs.Clusters.{stretch_of}
use Rattle.shapers_buffer.specs.Glyph.{clusters}

-- stretches that end within n places
abbrev pub EndWithin : ℕ → List (ℕ × ℕ) → Type 0
EndWithin n sts = AllByRecursion (λ st. st.1 ≤ n) sts

-- whether some stretch holds both place p - 1 and place p
abbrev pub held : List (ℕ × ℕ) → ℕ → Bool
held sts p = list_any (λ st. nat_lt st.0 p && nat_lt p st.1) sts

-- whether places p - 1 and p are linked: they share a cluster, or some stretch holds both
abbrev pub linked : List ℕ → List (ℕ × ℕ) → ℕ → Bool
linked cs sts p = slice_index cs (p - 1) == slice_index cs p || held sts p

-- all places between p and q, and these two, share one cluster
abbrev pub ShareCluster : List ℕ → ℕ → ℕ → Type 0
ShareCluster cs p q = (r : ℕ) → min p q ≤ r → r ≤ max p q → slice_index cs r ≡ slice_index cs p

-- the clusters never decrease, or never increase
abbrev pub IsRising : List ℕ → Type 0
IsRising cs = AllPairs (λ a b. a ≤ b) cs

abbrev pub IsFalling : List ℕ → Type 0
IsFalling cs = AllPairs (λ a b. b ≤ a) cs

abbrev pub IsMonotone : List ℕ → Type 0
IsMonotone cs = IsRising cs ⊎ IsFalling cs

-- all neighbours between p and q are linked: both stand in one block, a longest linked stretch
abbrev pub SameBlock : List ℕ → List (ℕ × ℕ) → ℕ → ℕ → Type 0
SameBlock cs sts p q = (r : ℕ) → min p q < r → r ≤ max p q → linked cs sts r ≡ true

-- Exact cuts: clusters change exactly at the borders of blocks, and are the least of their blocks.
pub record ExactCuts (cs : List ℕ) (sts : List (ℕ × ℕ)) (after : List ℕ) : Type 0 where
  pub same_length : length after ≡ length cs
  pub cuts : (p : ℕ) → 0 < p → p < length cs →
      (slice_index after (p - 1) ≢ slice_index after p) ↔ (linked cs sts p ≡ false)
  pub reached : (p : ℕ) →
      p < length cs →
      (q : ℕ) × (q < length cs) × SameBlock cs sts p q × (slice_index after p ≡ slice_index cs q)
  pub least : (p q : ℕ) → p < length cs → q < length cs → SameBlock cs sts p q →
      slice_index after p ≤ slice_index cs q

-- no glyph of the one list has a cluster of the other
abbrev pub ShareNone : Glyphs → Glyphs → Type 0
ShareNone gs hs = (i j : ℕ) → i < length gs → j < length hs →
    slice_index (clusters gs) i ≢ slice_index (clusters hs) j

-- all places of a stretch have one and the same cluster, or label
abbrev pub OneAlong : List ℕ → ℕ × ℕ → Type 0
OneAlong ns st =
    (p q : ℕ) → st.0 ≤ p → p < st.1 → st.0 ≤ q → q < st.1 → slice_index ns p ≡ slice_index ns q

-- no place outside s..e has a cluster of it
abbrev pub StandsApart : ℕ → ℕ → List ℕ → Type 0
StandsApart s e cs = (i j : ℕ) → s ≤ i → i < e → j < length cs → (j < s) ⊎ (e ≤ j) →
    slice_index cs i ≢ slice_index cs j

-- all are different
abbrev pub AllDifferent : List ℕ → Type 0
AllDifferent cs = AllPairs (λ a b. a ≢ b) cs

-- the clusters from s to e are all different, and no place elsewhere has one of them
pub record OwnClusters (s e : ℕ) (cs : List ℕ) : Type 0 where
  pub different : AllDifferent (stretch_of s e cs)
  pub others : StandsApart s e cs
