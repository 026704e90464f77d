-- A walk over strings, as far as it has come.
use Rattle.std.proofs.Common.{ℕ, suc, ◌+◌, ◌*◌, ◌-◌, ◌<◌, ◌≤◌, ◌≡◌, List, slice_index, refl, arith, ◌∙◌}
use Rattle.opentype_face.specs.Names.{string_start}

pub record IsNth (bytes : List ℕ) (start n i at : ℕ) : Type 0 where
  pub bound : at ≤ start + i * 256
  pub rest : string_start n bytes start ≡ string_start (n - i) bytes at

pub nth_first : (bytes : List ℕ) (start n : ℕ) → IsNth bytes start n 0 start
nth_first bytes start n = let e : n - 0 ≡ n = omega arith in record { bound = omega arith; rest = rw e refl }

step : (bytes : List ℕ) (n at : ℕ) →
    string_start (suc n) bytes at ≡ string_start n bytes (at + slice_index bytes at + 1)
unfolding string_start
step bytes n at = refl

out : (bytes : List ℕ) (at : ℕ) → string_start 0 bytes at ≡ at
unfolding string_start
out bytes at = refl

pub nth_next : (bytes : List ℕ) (start n i at len : ℕ) → IsNth bytes start n i at → i < n →
    len ≡ slice_index bytes at → len < 256 → IsNth bytes start n (i + 1) (at + (len + 1))
nth_next bytes start n i at len s lt is b =
    let e : n - i ≡ suc (n - (i + 1)) = omega arith in
    let p : at + (len + 1) ≡ at + slice_index bytes at + 1 = omega arith in
    let h = s.bound in
    record { bound = omega arith; rest = rw p (rw e at s.rest ∙ step bytes (n - (i + 1)) at) }

pub nth_last : (bytes : List ℕ) (start n i at : ℕ) → IsNth bytes start n i at → n ≤ i →
    string_start n bytes start ≡ at
nth_last bytes start n i at s h =
    let e : n - i ≡ 0 = omega arith in
    rw e at s.rest ∙ out bytes at
