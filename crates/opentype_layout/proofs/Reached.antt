-- How far the places of a rule reach, as far as they are found.
use Rattle.std.proofs.Common.{ℕ, suc, ◌+◌, ◌-◌, ◌<◌, ◌≤◌, ◌≡◌, Option, None, Some, refl, sym, ◌∙◌, arith}
use Rattle.opentype_layout.specs.Rules.{reach_from}

pub record IsReached (next : ℕ → ℕ → Option ℕ) (count first k from : ℕ) : Type 0 where
  pub few : k ≤ count
  pub rest : reach_from count next 0 first ≡ reach_from (count - k) next k from

one : (next : ℕ → ℕ → Option ℕ) (n k from p : ℕ) → next k from ≡ Some p →
    reach_from (suc n) next k from ≡ reach_from n next (k + 1) (p + 1)
unfolding reach_from
one next n k from p e = rw e refl

no : (next : ℕ → ℕ → Option ℕ) (n k from : ℕ) → next k from ≡ None → reach_from (suc n) next k from ≡ None
unfolding reach_from
no next n k from e = rw e refl

all : (next : ℕ → ℕ → Option ℕ) (k from : ℕ) → reach_from 0 next k from ≡ Some from
unfolding reach_from
all next k from = refl

pub reached_start : (next : ℕ → ℕ → Option ℕ) (count first : ℕ) → IsReached next count first 0 first
reached_start next count first =
    let n : count - 0 ≡ count = omega arith in record { few = omega arith; rest = rw n refl }

pub reached_next : (next : ℕ → ℕ → Option ℕ) (count first k from p : ℕ) → IsReached next count first k from →
    k < count → next k from ≡ Some p → IsReached next count first (k + 1) (p + 1)
reached_next next count first k from p a lt e =
    let n : count - k ≡ suc (count - (k + 1)) = omega arith in
    record { few = omega arith; rest = rw n at a.rest ∙ one next (count - (k + 1)) k from p e }

pub reached_none : (next : ℕ → ℕ → Option ℕ) (count first k from : ℕ) → IsReached next count first k from →
    k < count → next k from ≡ None → None ≡ reach_from count next 0 first
reached_none next count first k from a lt e =
    let n : count - k ≡ suc (count - (k + 1)) = omega arith in
    sym (rw n at a.rest ∙ no next (count - (k + 1)) k from e)

pub reached_all : (next : ℕ → ℕ → Option ℕ) (count first k from : ℕ) → IsReached next count first k from →
    count ≤ k → Some from ≡ reach_from count next 0 first
reached_all next count first k from a le =
    let n : count - k ≡ 0 = omega arith in sym (rw n at a.rest ∙ all next k from)
