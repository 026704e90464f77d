-- Bits in words of 64 bits.
use Rattle.std.specs.Prelude.{ℕ, ◌/◌, ◌%◌, ◌<◌, ◌≤◌, ◌≡◌, List, length, slice_index}
use Rattle.std.specs.Int.{bit_at}

-- the bit at a place
abbrev pub bit_in : List ℕ → ℕ → ℕ
bit_in words k = bit_at (slice_index words (k / 64)) (k % 64)

-- bits were set, and none was taken away
pub record Grown (old new : List ℕ) : Type 0 where
  pub len : length new ≡ length old
  pub kept : (k : ℕ) → bit_in new k ≡ 0 → bit_in old k ≡ 0

-- no bit is set from a place on, and before another
pub record IsClear (words : List ℕ) (from end : ℕ) : Type 0 where
  pub off : (k : ℕ) → from ≤ k → k < end → bit_in words k ≡ 0
