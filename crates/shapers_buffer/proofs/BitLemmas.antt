-- What setting one bit of sixteen does to each of them.
use Rattle.std.proofs.Common.{ℕ, ◌≡◌, ◌<◌, ◌==◌, ◌-◌, ◌*◌, ◌^◌, arith, true, false, bit_and, bit_or, w16}
use Rattle.std.proofs.lemmas.Bool.Decides.{nat_tests}
use Rattle.std.specs.Prelude.{◌≢◌}
use Rattle.std.specs.Int.{bit_at}
use Rattle.std.proofs.Math.Pow.{pow-lt}
use Rattle.std.proofs.lemmas.Nat.{and-not, or_lt, and_comm, pow_pos}
use Rattle.std.proofs.lemmas.Nat.Bits.{and_pow, bit_at_and, bit_at_or, bit_at_not, bit_at-pow_same, bit_at-pow_other}
use Rattle.shapers_buffer.specs.Properties.{has_bit, without_bit, BitsAreSetAlone}

-- a bit by its place
read_by_place : (n j : ℕ) → has_bit (2 ^ j) n ≡ (bit_at n j * 2 ^ j == 2 ^ j)
read_by_place n j = cc (and_pow n j)

is_on : (j : ℕ) → (1 * 2 ^ j == 2 ^ j) ≡ true
is_on = grind (arith, nat_tests)

is_off : (j : ℕ) → (0 * 2 ^ j == 2 ^ j) ≡ false
is_off j = grind (arith, nat_tests, pow_pos j)

-- the bits of sixteen ones without the bit k
abbrev all_but : ℕ → ℕ
all_but k = 65535 - 2 ^ k

all_but-same : (k : ℕ) → k < 16 → bit_at (all_but k) k ≡ 0
all_but-same k small = cc (bit_at_not w16 (2 ^ k) k (pow-lt small) small, bit_at-pow_same k)

all_but-other : (k j : ℕ) → k < 16 → j < 16 → j ≢ k → bit_at (all_but k) j ≡ 1
all_but-other k j small at other = cc (bit_at_not w16 (2 ^ k) j (pow-lt small) at, bit_at-pow_other k j other)

-- a bit that is set, and the others
set_same : (byte k : ℕ) → bit_at (bit_or byte (2 ^ k)) k ≡ 1
set_same = search (arith, bit_at_or, bit_at-pow_same)

set_other : (byte k j : ℕ) → j ≢ k → bit_at (bit_or byte (2 ^ k)) j ≡ bit_at byte j
set_other = search (arith, bit_at_or, bit_at-pow_other)

-- a bit is taken away as the program does it
pub cleared : (n m : ℕ) → n < 2 ^ 16 → m < 2 ^ 16 → without_bit m n ≡ bit_and n (65535 - m)
cleared n m a b = omega (arith, and-not 16 m n b a, and_comm n m, and_comm)

pub bits_are_set_alone : BitsAreSetAlone
bits_are_set_alone k true n small sixteen = search (arith, read_by_place, set_same, is_on, set_other, or_lt, pow-lt)
bits_are_set_alone k false n small sixteen =
    let is = cleared n (2 ^ k) sixteen (pow-lt small) in
    search (arith, read_by_place, all_but-same, is_off, bit_at_and, all_but-other)
