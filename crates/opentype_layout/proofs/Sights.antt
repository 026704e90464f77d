-- A search along a text, as far as it has come.
use Rattle.std.proofs.Common.{ℕ, suc, ◌+◌, ◌-◌, ◌<◌, ◌≤◌, ◌≡◌, Bool, true, false, Option, None, Some, refl, ◌∙◌, arith}
use Rattle.opentype_layout.specs.Sight.{next_from}

pub record IsSought (sight : ℕ → Option Bool) (len from i : ℕ) : Type 0 where
  pub rest : next_from (len - from) sight from ≡ next_from (len - i) sight i

step : (sight : ℕ → Option Bool) (n i : ℕ) → sight i ≡ None →
    next_from (suc n) sight i ≡ next_from n sight (i + 1)
unfolding next_from
step sight n i e = rw e refl

hit : (sight : ℕ → Option Bool) (n i : ℕ) → sight i ≡ Some true → next_from (suc n) sight i ≡ Some i
unfolding next_from
hit sight n i e = rw e refl

miss : (sight : ℕ → Option Bool) (n i : ℕ) → sight i ≡ Some false → next_from (suc n) sight i ≡ None
unfolding next_from
miss sight n i e = rw e refl

none : (sight : ℕ → Option Bool) (i : ℕ) → next_from 0 sight i ≡ None
unfolding next_from
none sight i = refl

pub sought_passed : (sight : ℕ → Option Bool) (len from i : ℕ) → IsSought sight len from i → i < len →
    sight i ≡ None → IsSought sight len from (i + 1)
sought_passed sight len from i s lt e =
    let n : len - i ≡ suc (len - (i + 1)) = omega arith in
    record { rest = rw n at s.rest ∙ step sight (len - (i + 1)) i e }

pub sought_hit : (sight : ℕ → Option Bool) (len from i : ℕ) → IsSought sight len from i → i < len →
    sight i ≡ Some true → next_from (len - from) sight from ≡ Some i
sought_hit sight len from i s lt e =
    let n : len - i ≡ suc (len - (i + 1)) = omega arith in
    rw n at s.rest ∙ hit sight (len - (i + 1)) i e

pub sought_miss : (sight : ℕ → Option Bool) (len from i : ℕ) → IsSought sight len from i → i < len →
    sight i ≡ Some false → next_from (len - from) sight from ≡ None
sought_miss sight len from i s lt e =
    let n : len - i ≡ suc (len - (i + 1)) = omega arith in
    rw n at s.rest ∙ miss sight (len - (i + 1)) i e

pub sought_out : (sight : ℕ → Option Bool) (len from i : ℕ) → IsSought sight len from i → len ≤ i →
    next_from (len - from) sight from ≡ None
sought_out sight len from i s out =
    let n : len - i ≡ 0 = omega arith in
    rw n at s.rest ∙ none sight i
