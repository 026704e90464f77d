-- The law of widths.
use Rattle.std.proofs.Common.{◌≡◌, ℕ, zero, suc, ◌+◌, ◌-◌, ◌*◌, ◌/◌, ◌%◌, ◌<◌, ◌≤◌, ℤ, pos, ◌+ℤ◌, ◌-ℤ◌, ◌*ℤ◌, ◌≤ℤ◌, ◌<ℤ◌, nat_abs, int_lt, int_div, Bool, true, false, cond, ◌&&◌, nat_lt, ◌⊎◌, inl, inr, subst, refl, sym, ◌∙◌, ap, arith, mul-pos}
use Rattle.std.proofs.lemmas.Int.{ints}
use borrow.Author.Tests.{ltb-true, ltb-false}
use Rattle.shapers_stretch.specs.declared.ot_shaper_arabic_stretch.measuring.TileSequence.{TileSequence}
use Rattle.shapers_stretch.specs.Measure.{fit, left, falls_short}
use Rattle.shapers_stretch.specs.StretchLaws.{TilesFit, CoversTheWord}
use lib.IntN.{pos-*ℤ-pos, *ℤ-zero}

-- the quotient x of M by R, of which at least one fits
fits_times : (R M x rem : ℕ) → suc R * x + rem ≡ M → rem < suc R → suc R ≤ M → (suc (x - 1) * suc R ≤ M)
    × (M < suc (x - 1) * suc R + suc R)
fits_times R M zero = search arith
fits_times R M (suc y) = search arith

abbrev fit_if : Bool → ℕ → ℕ → ℕ
fit_if b R M = cond (b && true) (M / suc R - 1) 0

fit_if_bounds : (b : Bool) (R M : ℕ) → (b ≡ true → suc R < M) → (b ≡ false → M ≤ suc R) → suc R ≤ M
    → (suc (fit_if b R M) * suc R ≤ M) × (M < suc (fit_if b R M) * suc R + suc R)
fit_if_bounds true R M above most h = fits_times R M (M / suc R) (M % suc R) (omega arith) (omega arith) h
fit_if_bounds false R M above most h = search arith

pub fit_bounds : (r m : ℤ) → pos 0 <ℤ r → r ≤ℤ m → ((pos (suc (fit r m)) *ℤ r) ≤ℤ m)
    × (m <ℤ (pos (suc (fit r m)) *ℤ r +ℤ r))
fit_bounds (pos (suc R)) (pos M) p h =
    let b = fit_if_bounds (nat_lt (suc R) M) R M (λ e. ltb-true (suc R) M e) (λ e. ltb-false (suc R) M e)
    (omega (arith, ints)) in
    let same : fit (pos (suc R)) (pos M) ≡ fit_if (nat_lt (suc R) M) R M =
    search arith in
    search (arith, ints)
fit_bounds _ _ p h = search

-- a sequence whose added copies reach too far by a number E above 0
abbrev overlap_if : Bool → ℤ → ℕ → ℤ
overlap_if b ex n = cond (b && int_lt (pos 0) ex) (int_div ex (pos n)) (pos 0)

abbrev Covers : ℤ → ℤ → ℕ → Type 0
Covers word w n = (word ≤ℤ w) × ((w ≡ word) ⊎ (w <ℤ (word +ℤ pos n)))

over_is : (E N : ℕ) → overlap_if true (pos (suc E)) N ≡ pos (suc E / N)
over_is E N = search arith

squeezed : (f left ex tiles_reach : ℤ) (E N : ℕ) → 0 < N → ex ≡ pos (suc E) → tiles_reach ≡ left +ℤ ex
    → Covers (left +ℤ f) ((f +ℤ tiles_reach) -ℤ pos N *ℤ overlap_if true ex N) N
squeezed f left ex tiles_reach E N p e h =
    let P : ℤ → Type 0 = λ x. tiles_reach ≡ left +ℤ x → Covers (left +ℤ f) ((f +ℤ tiles_reach) -ℤ pos N *ℤ overlap_if true x N) N in
    let at : P (pos (suc E)) = λ h.
    let product : pos N *ℤ overlap_if true (pos (suc E)) N ≡ pos (N * (suc E / N)) = ap (λ o. pos N *ℤ o) (over_is E N)
    ∙ pos-*ℤ-pos _ _ in
    (omega (arith, ints), inr (omega (arith, ints))) in
    subst P (sym e) at h

above_zero : (x : ℤ) → pos 0 <ℤ x → x ≡ pos (suc (nat_abs x - 1))
above_zero _ = search arith

-- the copies that fit leave less than one more: where that is something and there is a tile, one
-- more round reaches over it
covered : (f left r : ℤ) (q k : ℕ) (short : Bool) → 0 < k → (pos (suc q) *ℤ r) ≤ℤ left → left <ℤ (pos (suc q) *ℤ r +ℤ r)
    → (short ≡ true → (pos (suc q) *ℤ r) <ℤ left) → (short ≡ false → left ≤ℤ (pos (suc q) *ℤ r)) →
    let n = cond short (suc q) q in
    let reached = pos (suc n) *ℤ r in
    Covers (left +ℤ f) ((f +ℤ reached) -ℤ pos (n * k) *ℤ overlap_if short (reached -ℤ left) (n * k)) (n * k)
covered f left r q k true p low high more none =
    let E = nat_abs (pos (suc (suc q)) *ℤ r -ℤ left) - 1 in
    let is : pos (suc (suc q)) *ℤ r -ℤ left ≡ pos (suc E) = above_zero _ (omega (arith, ints)) in
    search (squeezed f left (pos (suc (suc q)) *ℤ r -ℤ left) (pos (suc (suc q)) *ℤ r) E (suc q * k)
    (mul-pos (omega arith) p) is (omega (arith, ints)))
covered f left r q k false p low high more none =
    let exactly : left ≤ℤ (pos (suc q) *ℤ r) = none refl in
    let nothing : pos (q * k) *ℤ overlap_if false (pos (suc q) *ℤ r -ℤ left) (q * k) ≡ pos 0 = *ℤ-zero (pos (q * k)) in
    (omega (arith, ints), inl (omega (arith, ints)))

-- what it means that copies fall short: where b is the test of what is left, and c that there is a tile
short_above : (rest : ℤ) (k : ℕ) {P : Type 0} → (int_lt (pos 0) rest && nat_lt 0 k) ≡ true → (pos 0 <ℤ rest → P) → P
short_above rest k e then = then (grind arith)

short_most : (rest : ℤ) (k : ℕ) {P : Type 0} → 0 < k → (int_lt (pos 0) rest && nat_lt 0 k) ≡ false → (rest ≤ℤ pos 0 → P)
    → P
short_most rest k some e then = then (grind arith)

pub covers : (z : TileSequence) → 0 < z.repeaters → TilesFit z → CoversTheWord z
covers z some fits =
    let bounds = fit_bounds z.repeating (left z) fits.0 fits.1 in
    let q = fit z.repeating (left z) in
    let rest = left z -ℤ pos (suc q) *ℤ z.repeating in
    let above : falls_short z ≡ true → (pos (suc q) *ℤ z.repeating) <ℤ left z =
    λ e. short_above rest z.repeaters e (λ p. omega (arith, ints)) in
    let most : falls_short z ≡ false → left z ≤ℤ (pos (suc q) *ℤ z.repeating) =
    λ e. short_most rest z.repeaters some e (λ p. omega (arith, ints)) in
    let all = covered z.fixed (left z) z.repeating q z.repeaters (falls_short z) some bounds.0 bounds.1 above most in
    let word : left z +ℤ z.fixed ≡ z.word = omega (arith, ints) in
    search arith
