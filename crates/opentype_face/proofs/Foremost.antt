-- A search for the first that fits, as far as it has come.
use Rattle.std.proofs.Common.{ℕ, suc, ◌+◌, ◌-◌, ◌<◌, ◌≤◌, ◌≡◌, Option, None, Some, refl, sym, ◌∙◌, arith}
use Rattle.std.proofs.Common.{true, false}
use Rattle.std.specs.Option.{is_some, option_map}
use Rattle.opentype_face.specs.Firsts.{first_from}

pub record IsFirst {X : Type 0} (f : ℕ → Option X) (count i : ℕ) : Type 0 where
  pub rest : first_from count f 0 ≡ first_from (count - i) f i

step : {X : Type 0} (f : ℕ → Option X) (n i : ℕ) → f i ≡ None → first_from (suc n) f i ≡ first_from n f (i + 1)
unfolding first_from
step f n i e = rw e refl

hit : {X : Type 0} (f : ℕ → Option X) (n i : ℕ) (x : X) → f i ≡ Some x → first_from (suc n) f i ≡ Some x
unfolding first_from
hit f n i x e = rw e refl

none : {X : Type 0} (f : ℕ → Option X) (i : ℕ) → first_from 0 f i ≡ None
unfolding first_from
none f i = refl

pub first_start : {X : Type 0} (f : ℕ → Option X) (count : ℕ) → IsFirst f count 0
first_start f count = let n : count - 0 ≡ count = omega arith in record { rest = rw n refl }

pub first_passed : {X : Type 0} (f : ℕ → Option X) (count i : ℕ) → IsFirst f count i → i < count →
    f i ≡ None → IsFirst f count (i + 1)
first_passed f count i s lt e =
    let n : count - i ≡ suc (count - (i + 1)) = omega arith in
    record { rest = rw n at s.rest ∙ step f (count - (i + 1)) i e }

pub first_hit : {X : Type 0} (f : ℕ → Option X) (count i : ℕ) (x : X) → IsFirst f count i → i < count →
    f i ≡ Some x → first_from count f 0 ≡ Some x
first_hit f count i x s lt e =
    let n : count - i ≡ suc (count - (i + 1)) = omega arith in
    rw n at s.rest ∙ hit f (count - (i + 1)) i x e

pub first_out : {X : Type 0} (f : ℕ → Option X) (count i : ℕ) → IsFirst f count i → count ≤ i →
    first_from count f 0 ≡ None
first_out f count i s out =
    let n : count - i ≡ 0 = omega arith in
    rw n at s.rest ∙ none f i

-- so where the code has what a ghost part of it says
pub first_found : {A X : Type 0} (g : A → X) (f : ℕ → Option X) (count i : ℕ) (o : Option A) →
    IsFirst f count i → i < count → option_map g o ≡ f i → is_some o ≡ true →
    option_map g o ≡ first_from count f 0
first_found g f count i None s lt e some = absurd (cc)
first_found g f count i (Some a) s lt e some = sym (first_hit f count i (g a) s lt (sym e))

pub first_missed : {A X : Type 0} (g : A → X) (f : ℕ → Option X) (count i : ℕ) (o : Option A) →
    IsFirst f count i → i < count → option_map g o ≡ f i → is_some o ≡ false → IsFirst f count (i + 1)
first_missed g f count i None s lt e some = first_passed f count i s lt (sym e)
first_missed g f count i (Some a) s lt e some = absurd (cc)

-- the same where the code has no ghost part
pub first_same : {X : Type 0} (f : ℕ → Option X) (count i : ℕ) (o : Option X) →
    IsFirst f count i → i < count → o ≡ f i → is_some o ≡ true → o ≡ first_from count f 0
first_same f count i None s lt e some = absurd (cc)
first_same f count i (Some x) s lt e some = sym (first_hit f count i x s lt (sym e))

pub first_none : {X : Type 0} (f : ℕ → Option X) (count i : ℕ) (o : Option X) →
    IsFirst f count i → i < count → o ≡ f i → is_some o ≡ false → IsFirst f count (i + 1)
first_none f count i None s lt e some = first_passed f count i s lt (sym e)
first_none f count i (Some x) s lt e some = absurd (cc)
