-- A list with a gap.
use Rattle.std.specs.Prelude.{ℕ, ◌≤◌, List, ◌++◌, take, drop}

-- what stands before the gap, and behind it
abbrev pub gapped : {X : Type 0} → ℕ → ℕ → List X → List X
gapped before behind xs = take before xs ++ drop behind xs

-- a gap from one place of a list of this length up to another
pub record IsGap (before behind len : ℕ) : Type 0 where
  pub in_order : before ≤ behind
  pub within : behind ≤ len
