-- Bits in words, by their places.
use Rattle.std.proofs.Common.{ℕ, ◌+◌, ◌-◌, ◌*◌, ◌/◌, ◌%◌, ◌^◌, ◌<◌, ◌≤◌, ◌≡◌, ◌∙◌, ◌⊎◌, inl, inr, List, length, get_or, set, min, refl, sym, ap, subst, arith, bit_or, w64}
use Rattle.std.specs.Int.{bit_at, trailing_zeros}
use Rattle.std.proofs.lemmas.Nat.{shr-shr}
use Rattle.std.proofs.lemmas.Nat.Bits.{bit_at_or, bit_at_set_same, bit_at-zero, bit_at-trailing_zeros}
use Rattle.std.proofs.lemmas.Grind.{common_steps}
use Rattle.opentype_layout.specs.Bits.{Grown, IsClear, bit_in}

pub same_or_not : (k i : ℕ) → (k ≡ i) ⊎ (k ≡ i → ⊥)
same_or_not k i = grind arith

pub before_or_at : (k i : ℕ) → k < i + 1 → (k < i) ⊎ (k ≡ i)
before_or_at k i lt = grind arith

pub before_or_not : (k i : ℕ) → (k < i) ⊎ (i ≤ k)
before_or_not k i = grind arith

-- ---- a bit that is set

or_off : (x y k : ℕ) → bit_at (bit_or x y) k ≡ 0 → bit_at x k ≡ 0
or_off x y k e = let m = bit_at_or x y k in grind arith

pub grown_same : (words : List ℕ) → Grown words words
grown_same words = record { len = refl; kept = λ k h. h }

pub grown_then : (a b c : List ℕ) → Grown a b → Grown b c → Grown a c
grown_then a b c one two = record {
  len = two.len ∙ one.len;
  kept = λ k h. one.kept k (two.kept k h);
}

word_kept : (words : List ℕ) (at bits p b : ℕ) → at < length words →
    bit_at (get_or (set words at (bit_or (get_or words at 0) bits)) p 0) b ≡ 0 → bit_at (get_or words p 0) b ≡ 0
word_kept words at bits p b lt e = elim (same_or_not p at) [
  | inl same ↦ (let o = or_off (get_or words at 0) bits b in grind (arith, common_steps))
  | inr other ↦ grind (arith, common_steps)
]

pub set_grows : (words : List ℕ) (k bits : ℕ) → k < 64 * length words →
    Grown words (set words (k / 64) (bit_or (get_or words (k / 64) 0) bits))
set_grows words k bits lt =
    let within : k / 64 < length words = omega arith in
    record {
      len = grind (arith, common_steps);
      kept = λ j e. word_kept words (k / 64) bits (j / 64) (j % 64) within e;
    }

word_set : (words : List ℕ) (at b : ℕ) → at < length words → b < 64 →
    bit_at (get_or (set words at (bit_or (get_or words at 0) (1 * 2 ^ b % 18446744073709551616))) at 0) b ≡ 1
word_set words at b lt small = let s = bit_at_set_same w64 (get_or words at 0) b small in grind (arith, common_steps)

pub set_is : (words : List ℕ) (k : ℕ) → k < 64 * length words →
    bit_in (set words (k / 64) (bit_or (get_or words (k / 64) 0) (1 * 2 ^ (k % 64) % 18446744073709551616))) k ≡ 1
set_is words k lt = word_set words (k / 64) (k % 64) (omega arith) (omega arith)

-- ---- bits that are not set

pub clear_none : (words : List ℕ) (from end : ℕ) → end ≤ from → IsClear words from end
clear_none words from end le = record { off = λ k a b. absurd (omega arith) }

pub clear_join : (words : List ℕ) (from mid end : ℕ) → IsClear words from mid → IsClear words mid end →
    IsClear words from end
clear_join words from mid end one two = record {
  off = λ k a b. elim (before_or_not k mid) [
    | inl lt ↦ one.off k a lt
    | inr le ↦ two.off k le b
  ];
}

pub clear_less : (words : List ℕ) (from end less : ℕ) → IsClear words from end → less ≤ end → IsClear words from less
clear_less words from end less c le = record { off = λ k a b. c.off k a (omega arith) }

-- the rest of a word, from a bit on
in_rest : (words : List ℕ) (from d : ℕ) → from % 64 + d < 64 →
    bit_in words (from + d) ≡ bit_at (get_or words (from / 64) 0 / 2 ^ (from % 64)) d
in_rest words from d lt =
    let word : (from + d) / 64 ≡ from / 64 = omega arith in
    let bit : (from + d) % 64 ≡ from % 64 + d = omega arith in
    rw (word, bit) (sym (ap (λ x. x % 2) (shr-shr (get_or words (from / 64) 0) (from % 64) d)))

pub rest_clear : (words : List ℕ) (from rest end : ℕ) → rest ≡ get_or words (from / 64) 0 / 2 ^ (from % 64) →
    ((d : ℕ) → from + d < end → bit_at rest d ≡ 0) → end ≤ (from / 64 + 1) * 64 → IsClear words from end
rest_clear words from rest end is off within = record {
  off = λ k a b.
      (let e : from + (k - from) ≡ k = omega arith in
      let lt : from % 64 + (k - from) < 64 = omega arith in
      let o = off (k - from) (omega arith) in
      subst (λ j. bit_in words j ≡ 0) e (in_rest words from (k - from) lt ∙ (rw is at o)));
}

-- a word of 64 bits has none behind them
none_high : (word j : ℕ) → word < 2 ^ 64 → 64 ≤ j → bit_at word j ≡ 0
none_high word j small le =
    let e : j ≡ 64 + (j - 64) = omega arith in
    let d : word / 2 ^ 64 ≡ 0 = omega arith in
    rw e (ap (λ x. x % 2) (sym (shr-shr word 64 (j - 64)) ∙ ap (λ x. x / 2 ^ (j - 64)) d) ∙ bit_at-zero (j - 64))

lowest_in_word : (word a t : ℕ) → word < 2 ^ 64 → bit_at (word / 2 ^ a) t ≡ 1 → a + t < 64
lowest_in_word word a t small on = elim (before_or_not (a + t) 64) [
  | inl lt ↦ lt
  | inr le ↦ absurd (let none = none_high word (a + t) small le in
      let e = ap (λ x. x % 2) (shr-shr word a t) in cc)
]

pub rest_first : (words : List ℕ) (from rest end : ℕ) → rest ≡ get_or words (from / 64) 0 / 2 ^ (from % 64) →
    get_or words (from / 64) 0 < 2 ^ 64 → rest < 2 ^ 64 → 0 < rest →
    IsClear words from (min end (from + trailing_zeros w64 rest))
rest_first words from rest end is small fits some =
    let t = bit_at-trailing_zeros w64 rest some fits in
    let lt = lowest_in_word (get_or words (from / 64) 0) (from % 64) (trailing_zeros w64 rest) small
    (subst (λ x. bit_at x (trailing_zeros w64 rest) ≡ 1) is t.1) in
    rest_clear words from rest (min end (from + trailing_zeros w64 rest)) is
    (λ d l. t.2 d (omega arith)) (omega arith)

pub rest_none : (words : List ℕ) (from rest : ℕ) → rest ≡ get_or words (from / 64) 0 / 2 ^ (from % 64) → rest ≡ 0 →
    IsClear words from ((from / 64 + 1) * 64)
rest_none words from rest is none =
    rest_clear words from rest ((from / 64 + 1) * 64) is (λ d l. rw none (bit_at-zero d)) (omega arith)

-- a whole word
whole : (words : List ℕ) (i : ℕ) → get_or words i 0 ≡ get_or words (i * 64 / 64) 0 / 2 ^ (i * 64 % 64)
whole words i =
    let word : i * 64 / 64 ≡ i = omega arith in
    let bit : i * 64 % 64 ≡ 0 = omega arith in
    rw (word, bit) (omega arith)

pub word_first : (words : List ℕ) (i word end : ℕ) → word ≡ get_or words i 0 → word < 2 ^ 64 → 0 < word →
    IsClear words (i * 64) (min end (i * 64 + trailing_zeros w64 word))
word_first words i word end is small some =
    let e : i * 64 / 64 ≡ i = omega arith in
    rest_first words (i * 64) word end (is ∙ whole words i) (rw (e, sym is) small) small some

pub word_none : (words : List ℕ) (i word : ℕ) → word ≡ get_or words i 0 → word ≡ 0 →
    IsClear words (i * 64) ((i + 1) * 64)
word_none words i word is none =
    let e : i * 64 / 64 ≡ i = omega arith in
    rw e at (rest_none words (i * 64) word (is ∙ whole words i) none)
