-- The places of a rule, as far as they are found.
use Rattle.std.proofs.Common.{ℕ, zero, suc, ◌+◌, ◌-◌, ◌<◌, ◌≤◌, ◌≡◌, Option, None, Some, List, [], ◌∷◌, ◌++◌, length, get_or, refl, sym, ap, ◌∙◌, arith, append_assoc}
use Rattle.std.proofs.Common.{true, false}
use Rattle.std.specs.Option.{is_some, option_map}
use Rattle.std.proofs.lemmas.Grind.{common_steps}
use Rattle.opentype_layout.specs.Pattern.{places_from}

pub record ArePlaced (next : ℕ → ℕ → Option ℕ) (count first len k from : ℕ) (found : List ℕ) : Type 0 where
  pub few : k ≤ count
  pub number : length found ≡ k
  pub within : (j : ℕ) → j < length found → get_or found j 0 < len
  pub rest : places_from count next 0 first
      ≡ option_map (λ ps. found ++ ps) (places_from (count - k) next k from)

map_nothing : (o : Option (List ℕ)) → o ≡ option_map (λ ps. [] ++ ps) o
map_nothing None = refl
map_nothing (Some ps) = refl

pub placed_start : (next : ℕ → ℕ → Option ℕ) (count first len : ℕ) →
    ArePlaced next count first len 0 first []
placed_start next count first len = record {
  few = omega arith;
  number = refl;
  within = λ j lt. absurd (omega arith);
  rest = (let n : count - 0 ≡ count = omega arith in
      rw n (map_nothing (places_from count next 0 first)));
}

one : (next : ℕ → ℕ → Option ℕ) (n k from p : ℕ) → next k from ≡ Some p →
    places_from (suc n) next k from ≡ option_map (λ ps. p ∷ ps) (places_from n next (k + 1) (p + 1))
unfolding places_from
one next n k from p e = rw e refl

no : (next : ℕ → ℕ → Option ℕ) (n k from : ℕ) → next k from ≡ None →
    places_from (suc n) next k from ≡ None
unfolding places_from
no next n k from e = rw e refl

all : (next : ℕ → ℕ → Option ℕ) (k from : ℕ) → places_from 0 next k from ≡ Some []
unfolding places_from
all next k from = refl

map_twice : (found : List ℕ) (p : ℕ) (o : Option (List ℕ)) →
    option_map (λ ps. found ++ ps) (option_map (λ ps. p ∷ ps) o)
    ≡ option_map (λ ps. (found ++ p ∷ []) ++ ps) o
map_twice found p None = refl
map_twice found p (Some ps) = ap Some (sym (append_assoc found (p ∷ []) ps))

one_within : (found : List ℕ) (p len : ℕ) → ((j : ℕ) → j < length found → get_or found j 0 < len) →
    p < len → (j : ℕ) → j < length (found ++ p ∷ []) → get_or (found ++ p ∷ []) j 0 < len
one_within [] p len h lt zero inside = lt
one_within [] p len h lt (suc j) inside = absurd (omega arith)
one_within (f ∷ found) p len h lt zero inside = h 0 (omega arith)
one_within (f ∷ found) p len h lt (suc j) inside =
    one_within found p len (λ i i_in. h (suc i) (omega arith)) lt j (omega arith)

pub placed_next : (next : ℕ → ℕ → Option ℕ) (count first len k from : ℕ) (found : List ℕ) (p : ℕ) →
    ArePlaced next count first len k from found → k < count → next k from ≡ Some p → p < len →
    ArePlaced next count first len (k + 1) (p + 1) (found ++ p ∷ [])
placed_next next count first len k from found p a lt e inside =
    let n : count - k ≡ suc (count - (k + 1)) = omega arith in
    let num : length found ≡ k = a.number in
    record {
      few = omega arith;
      number = grind (arith, common_steps, num);
      within = one_within found p len a.within inside;
      rest = rw n at a.rest
          ∙ ap (option_map (λ ps. found ++ ps)) (one next (count - (k + 1)) k from p e)
          ∙ map_twice found p (places_from (count - (k + 1)) next (k + 1) (p + 1));
    }

pub placed_none : (next : ℕ → ℕ → Option ℕ) (count first len k from : ℕ) (found : List ℕ) →
    ArePlaced next count first len k from found → k < count → next k from ≡ None →
    places_from count next 0 first ≡ None
placed_none next count first len k from found a lt e =
    let n : count - k ≡ suc (count - (k + 1)) = omega arith in
    rw n at a.rest ∙ ap (option_map (λ ps. found ++ ps)) (no next (count - (k + 1)) k from e)

pub placed_all : (next : ℕ → ℕ → Option ℕ) (count first len k from : ℕ) (found : List ℕ) →
    ArePlaced next count first len k from found → count ≤ k →
    places_from count next 0 first ≡ Some found
placed_all next count first len k from found a le =
    let n : count - k ≡ 0 = omega arith in
    rw n at a.rest ∙ ap (option_map (λ ps. found ++ ps)) (all next k from)
    ∙ ap Some (grind (arith, common_steps))

-- ---- so where the places themselves aren't asked for

pub record AreSought (next : ℕ → ℕ → Option ℕ) (count first k from : ℕ) : Type 0 where
  pub few : k ≤ count
  pub rest : is_some (places_from count next 0 first) ≡ is_some (places_from (count - k) next k from)

some_mapped : (p : ℕ) (o : Option (List ℕ)) → is_some (option_map (λ ps. p ∷ ps) o) ≡ is_some o
some_mapped p None = refl
some_mapped p (Some ps) = refl

pub sought_start : (next : ℕ → ℕ → Option ℕ) (count first : ℕ) → AreSought next count first 0 first
sought_start next count first =
    let n : count - 0 ≡ count = omega arith in record { few = omega arith; rest = rw n refl }

pub sought_next : (next : ℕ → ℕ → Option ℕ) (count first k from p : ℕ) → AreSought next count first k from →
    k < count → next k from ≡ Some p → AreSought next count first (k + 1) (p + 1)
sought_next next count first k from p a lt e =
    let n : count - k ≡ suc (count - (k + 1)) = omega arith in
    record {
      few = omega arith;
      rest = rw n at a.rest ∙ ap is_some (one next (count - (k + 1)) k from p e)
          ∙ some_mapped p (places_from (count - (k + 1)) next (k + 1) (p + 1));
    }

pub sought_none : (next : ℕ → ℕ → Option ℕ) (count first k from : ℕ) → AreSought next count first k from →
    k < count → next k from ≡ None → false ≡ is_some (places_from count next 0 first)
sought_none next count first k from a lt e =
    let n : count - k ≡ suc (count - (k + 1)) = omega arith in
    sym (rw n at a.rest ∙ ap is_some (no next (count - (k + 1)) k from e))

pub sought_all : (next : ℕ → ℕ → Option ℕ) (count first k from : ℕ) → AreSought next count first k from →
    count ≤ k → true ≡ is_some (places_from count next 0 first)
sought_all next count first k from a le =
    let n : count - k ≡ 0 = omega arith in sym (rw n at a.rest ∙ ap is_some (all next k from))
