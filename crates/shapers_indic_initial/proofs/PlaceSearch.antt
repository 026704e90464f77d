-- Searches over places, one place more at either end.
use Rattle.std.proofs.Common.{◌≡◌, ℕ, zero, suc, ◌+◌, ◌-◌, ◌<◌, ◌≤◌, Bool, true, false, cond, ◌||◌, [], ◌∷◌, Option, None, Some, unwrap_or, subst, reverse, inl, inr, sym, ap, ◌∙◌, arith}
use Rattle.std.specs.Option.{option_or}
use Rattle.std.proofs.lemmas.Bool.{cases_lt}
use Rattle.std.proofs.lemmas.List.{reverse-append}
use Rattle.std.proofs.lemmas.List.Folds.{find-append}
use Rattle.shapers_buffer.proofs.Ranges.{range-append}
use Rattle.shapers_indic.specs.Glyphs.{greatest_place, places, some_place}
use Rattle.shapers_indic.proofs.PlaceSearch.{greatest_last, places_first}

-- the greatest place, with the last place apart
pub greatest_back : (P : ℕ → Bool) (s i : ℕ) → s ≤ i → P i ≡ false → greatest_place P s (i + 1) ≡ greatest_place P s i
greatest_back P s i l e = cc (greatest_last P s i l)

pub greatest_here : (P : ℕ → Bool) (s i : ℕ) → s ≤ i → P i ≡ true → greatest_place P s (i + 1) ≡ Some i
greatest_here P s i l e = cc (greatest_last P s i l)

-- with the first place apart
pub greatest_first : (P : ℕ → Bool) (i n : ℕ) → i < n
    → greatest_place P i n ≡ option_or (greatest_place P (i + 1) n) (cond (P i) (Some i) None)
greatest_first P i n l = cc (
  places_first i n l,
  reverse-append (i ∷ []) (places (i + 1) n),
  find-append P (reverse (places (i + 1) n)) (i ∷ []),
)

-- what is found from a place on is found from each earlier one on
pub greatest_further : (P : ℕ → Bool) (s i e k : ℕ) → s ≤ i → i ≤ e → greatest_place P i e ≡ Some k
    → greatest_place P s e ≡ Some k
greatest_further P s i e = search (
  arith,
  range-append s (i - s) (e - i),
  reverse-append (places s i) (places i e),
  find-append P (reverse (places i e)) (reverse (places s i)),
)

some_same : {j k : ℕ} → Some j ≡ Some k → j ≡ k
some_same e = ap (λ o. unwrap_or o 0) e

IsNone : Option ℕ → Type 0
IsNone None = Unit {0}
IsNone (Some k) = ⊥

none_some : {k : ℕ} → None ≡ Some k → ⊥
unfolding IsNone
none_some e = subst IsNone e tt

-- it stands before the end
pub greatest_before : (P : ℕ → Bool) (s i k : ℕ) → greatest_place P s i ≡ Some k → k < i
greatest_before P s zero k is = search arith
greatest_before P s (suc i) k is = elim (cases_lt i s) [
  | inl l ↦ search arith
  | inr l ↦
      let step =
      sym (ap (greatest_place P s) (omega arith) ∙ greatest_last P s i (omega arith)) ∙ is in
      (elim (P i) as (λ b. cond b (Some i) (greatest_place P s i) ≡ Some k → k < suc i) [
        | true ↦ λ e. omega (arith, some_same e)
        | false ↦ λ e. let u : k < i = greatest_before P s i k e in omega arith
      ]) step
]

-- whether some place has a property, with the first place apart
pub some_first : (P : ℕ → Bool) (i n : ℕ) → i < n → some_place P i n ≡ P i || some_place P (i + 1) n
some_first P i n l = cc (places_first i n l)
