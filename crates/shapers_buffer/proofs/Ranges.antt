-- Ranges of places in two parts.
use Rattle.std.proofs.Common.{ℕ, zero, suc, ◌+◌, ◌≡◌, ◌++◌, arith}
use Rattle.std.specs.List.{range_with_len}

pub range-append : (a j k : ℕ) → range_with_len a (j + k) ≡ range_with_len a j ++ range_with_len (a + j) k
range-append a zero k = search arith
range-append a (suc j) k = let i : suc j + k ≡ suc (j + k) = omega arith in search (arith, range-append (a + 1) j k)
