-- A search for the first that fits, in code that has the very thing.
use Rattle.std.proofs.Common.{ℕ, ◌+◌, ◌-◌, ◌<◌, ◌≤◌, ◌≡◌, max, Bool, true, false, Option, None, Some, sym, arith}
use Rattle.opentype_layout.specs.Looking.{stop_from}
use Rattle.opentype_layout.specs.Sight.{is_passed, next_from}
use Rattle.opentype_layout.proofs.Lookings.{IsStopped, stopped_here, stopped_out}
use Rattle.opentype_layout.proofs.Sights.{IsSought, sought_hit, sought_miss, sought_out}

-- and a search along a text from its start
pub sought_here : (sight : ℕ → Option Bool) (len i : ℕ) → IsSought sight len 0 i → i < len →
    sight i ≡ Some true → Some i ≡ next_from len sight 0
sought_here sight len i s lt e =
    let n : len - 0 ≡ len = omega arith in
    let h : next_from (len - 0) sight 0 ≡ Some i = sought_hit sight len 0 i s lt e in sym (rw n at h)

pub sought_nowhere : (sight : ℕ → Option Bool) (len i : ℕ) → IsSought sight len 0 i → i < len →
    sight i ≡ Some false → None ≡ next_from len sight 0
sought_nowhere sight len i s lt e =
    let n : len - 0 ≡ len = omega arith in
    let h : next_from (len - 0) sight 0 ≡ None = sought_miss sight len 0 i s lt e in sym (rw n at h)

pub sought_to_end : (sight : ℕ → Option Bool) (len i : ℕ) → IsSought sight len 0 i → len ≤ i →
    None ≡ next_from len sight 0
sought_to_end sight len i s out =
    let n : len - 0 ≡ len = omega arith in
    let h : next_from (len - 0) sight 0 ≡ None = sought_out sight len 0 i s out in sym (rw n at h)

-- ---- where a search ends

pub stopped_back : (sight : ℕ → Option Bool) (len i : ℕ) → IsStopped sight len 0 i → i < len →
    is_passed (sight i) ≡ false → i + 1 ≡ stop_from len sight 0
stopped_back sight len i s lt e =
    let n : len - 0 ≡ len = omega arith in
    let h : i + 1 ≡ stop_from (len - 0) sight 0 = stopped_here sight len 0 i s lt e in rw n at h

pub passed_back : (sight : ℕ → Option Bool) (len i : ℕ) → IsStopped sight len 0 i → len ≤ i → len ≡ stop_from len sight 0
passed_back sight len i s out =
    let n : len - 0 ≡ len = omega arith in
    let m : len ≡ max 0 len = omega arith in
    let h : len ≡ stop_from (len - 0) sight 0 = stopped_out sight len 0 i len s out m in rw n at h
