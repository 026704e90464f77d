-- Bits of a mask that aren't glyph flags.
use Rattle.std.proofs.Common.{◌%◌, ◌/◌, ◌≡◌, bit_and, sym, ap, ◌∙◌, ℕ, arith}
use Rattle.std.specs.Int.Bits.{and_zero_r}
use Rattle.std.proofs.lemmas.Nat.{and_mod, and_shr}
use Rattle.shapers_buffer.specs.Glyph.{without_flags}

-- a mask without flags and without other bits
pub flags-and : (a b : ℕ) → without_flags (bit_and a b) ≡ bit_and (without_flags a) b
flags-and a b =
    let x = bit_and a b in
    let y = bit_and (without_flags a) b in
    let zero : without_flags a % 8 ≡ 0 = omega arith in
    let none : y % 8 ≡ 0 = and_mod (without_flags a) b 3 ∙ ap (λ n. bit_and n (b % 8)) zero in
    let front : without_flags a / 8 ≡ a / 8 = omega arith in
    let same : x / 8 ≡ y / 8 = and_shr a b 3 ∙ ap (λ n. bit_and n (b / 8)) (sym front)
    ∙ sym (and_shr (without_flags a) b 3) in
    omega arith

-- bits that aren't flags are there with flags or without
pub mask_read : (mask bits : ℕ) → bits % 8 ≡ 0 → bit_and (without_flags mask) bits ≡ bit_and mask bits
mask_read mask bits off =
    let none : bit_and mask bits % 8 ≡ 0 = and_mod mask bits 3 ∙ ap (bit_and (mask % 8)) off ∙ and_zero_r (mask % 8) in
    sym (flags-and mask bits) ∙ omega arith
