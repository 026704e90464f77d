-- Masks added to a mask: in any grouping, in any order, and one added twice is added once.
use Rattle.std.proofs.Common.{ℕ, ◌≡◌, ◌∙◌, ap, arith}
use Rattle.std.specs.Int.Bits.{bit_or, or_self}
use Rattle.std.proofs.lemmas.Nat.{or_comm}
use Rattle.std.proofs.lemmas.Nat.Bits.{bit_at_or, same_from_bits}

pub or_assoc : (a b c : ℕ) → bit_or (bit_or a b) c ≡ bit_or a (bit_or b c)
or_assoc a b c = same_from_bits (bit_or (bit_or a b) c) (bit_or a (bit_or b c)) (λ i. search (arith, bit_at_or))

pub or_swap : (x a b : ℕ) → bit_or (bit_or x b) a ≡ bit_or (bit_or x a) b
or_swap = search (arith, or_assoc, or_comm)

pub or_twice : (x a : ℕ) → bit_or (bit_or x a) a ≡ bit_or x a
or_twice x a = or_assoc x a a ∙ ap (bit_or x) (or_self a)
