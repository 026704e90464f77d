-- Tests of places one after another, as far as they have come.
use Rattle.std.proofs.Common.{ℕ, ◌+◌, ◌<◌, ◌≤◌, ◌≡◌, Bool, true, false, not, ap}
use Rattle.std.specs.Option.{is_some}
use Rattle.opentype_face.proofs.Foremost.{IsFirst, first_start, first_passed, first_hit, first_out}
use Rattle.opentype_font.specs.Tests.{all_pass, some_of, when}

-- no place before this one has passed
pub record NoneYet (test : ℕ → Bool) (count i : ℕ) : Type 0 where
  pub first : IsFirst (λ k. when (test k)) count i

pub none_start : (test : ℕ → Bool) (count : ℕ) → NoneYet test count 0
none_start test count = record { first = first_start _ count }

pub none_next : (test : ℕ → Bool) (count i : ℕ) → NoneYet test count i → i < count →
    test i ≡ false → NoneYet test count (i + 1)
none_next test count i n lt e = record { first = first_passed _ count i n.first lt (ap when e) }

pub none_hit : (test : ℕ → Bool) (count i : ℕ) → NoneYet test count i → i < count →
    test i ≡ true → some_of count test ≡ true
none_hit test count i n lt e = ap is_some (first_hit _ count i 0 n.first lt (ap when e))

pub none_out : (test : ℕ → Bool) (count i : ℕ) → NoneYet test count i → count ≤ i →
    some_of count test ≡ false
none_out test count i n le = ap is_some (first_out _ count i n.first le)

-- and each place has
pub record AllYet (test : ℕ → Bool) (count i : ℕ) : Type 0 where
  pub none : NoneYet (λ k. not (test k)) count i

pub all_start : (test : ℕ → Bool) (count : ℕ) → AllYet test count 0
all_start test count = record { none = none_start _ count }

pub all_next : (test : ℕ → Bool) (count i : ℕ) → AllYet test count i → i < count →
    test i ≡ true → AllYet test count (i + 1)
all_next test count i a lt e = record { none = none_next _ count i a.none lt (ap not e) }

pub all_fails : (test : ℕ → Bool) (count i : ℕ) → AllYet test count i → i < count →
    test i ≡ false → all_pass count test ≡ false
all_fails test count i a lt e = ap not (none_hit _ count i a.none lt (ap not e))

pub all_out : (test : ℕ → Bool) (count i : ℕ) → AllYet test count i → count ≤ i →
    all_pass count test ≡ true
all_out test count i a le = ap not (none_out _ count i a.none le)
