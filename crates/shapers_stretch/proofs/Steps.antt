-- Equal steps: what stands between two ends stays between them.
use Rattle.std.proofs.Common.{◌≡◌, ℕ, zero, suc, ℤ, pos, ◌+ℤ◌, ◌*ℤ◌, ◌≤ℤ◌, negsuc, Bool, true, false, ◌&&◌, List, [], ◌∷◌, refl, sym, arith}
use Rattle.std.specs.List.{list_all}
use Rattle.std.proofs.lemmas.Int.{ints, by_lt_z}
use Rattle.shapers_stretch.specs.Measure.{fits_i32}
pub use Rattle.shapers_stretch.specs.LayingWalk.{laid_on, offsets}
use Rattle.shapers_stretch.proofs.Sums.{times_add}

pub times_up : (n : ℕ) (d : ℤ) → pos 0 ≤ℤ d → pos 0 ≤ℤ (pos n *ℤ d)
times_up zero d h = omega (arith, ints)
times_up (suc n) d h = omega (arith, ints, times_up n d h)

times_down : (n : ℕ) (d : ℤ) → d ≤ℤ pos 0 → (pos n *ℤ d) ≤ℤ pos 0
times_down zero d h = omega (arith, ints)
times_down (suc n) d h = omega (arith, ints, times_down n d h)

fits_yes : (x : ℤ) → negsuc 2147483647 ≤ℤ x → x ≤ℤ pos 2147483647 → fits_i32 x ≡ true
fits_yes _ = search arith

-- a number that fits lies between the ends
pub fits_bounds : (x : ℤ) → fits_i32 x ≡ true → (negsuc 2147483647 ≤ℤ x) × (x ≤ℤ pos 2147483647)
fits_bounds = search arith

-- n equal steps from a on, both ends counted
abbrev pub stepping : ℤ → ℤ → ℕ → List ℤ
stepping a d zero = a ∷ []
stepping a d (suc n) = a ∷ stepping (a +ℤ d) d n

no_second : (a b : Bool) → b ≡ false → (a && b) ≡ b
no_second true b e = refl
no_second false b e = sym e

middle : (a b c : Bool) → (a ≡ true → c ≡ true → b ≡ true) → (a && (b && c)) ≡ (a && c)
middle false b c f = refl
middle true b false f = no_second b false refl
middle true b true f = search arith

twice : (b : Bool) → (b && true) ≡ (b && b)
twice true = refl
twice false = refl

-- they all fit exactly if both ends do
pub stepping_fits : (a d : ℤ) (n : ℕ) → list_all fits_i32 (stepping a d n) ≡ (fits_i32 a && fits_i32 (a +ℤ pos n *ℤ d))
stepping_fits a d zero = search arith
stepping_fits a d (suc n) =
    let last : (a +ℤ d) +ℤ pos n *ℤ d ≡ a +ℤ pos (suc n) *ℤ d = omega (arith, ints) in
    let between : fits_i32 a ≡ true → fits_i32 (a +ℤ pos (suc n) *ℤ d) ≡ true → fits_i32 (a +ℤ d) ≡ true = λ e f. let
    first = fits_bounds a e in
    let second = fits_bounds (a +ℤ pos (suc n) *ℤ d) f in
    let both =
    by_lt_z {P = ((negsuc 2147483647) ≤ℤ (a +ℤ pos 1 *ℤ d)) × ((a +ℤ pos 1 *ℤ d) ≤ℤ (pos 2147483647))} d (pos 0) (λ h.
    let down : d ≤ℤ pos 0 = omega (arith, ints) in (
      omega (arith, ints, times_down n d down),
      omega (arith, ints),
    )) (λ h. search (arith, ints, times_add)) in fits_yes (a +ℤ d) (omega (arith, ints)) (omega (arith, ints)) in
    cc (stepping_fits (a +ℤ d) d n, middle (fits_i32 a) (fits_i32 (a +ℤ d)) (fits_i32 (a +ℤ pos (suc n) *ℤ d)) between)
