-- Searches over places: one place more at either end, and where what is found lies.
use Rattle.std.proofs.Common.{◌≡◌, ℕ, suc, ◌+◌, ◌-◌, ◌<◌, ◌≤◌, Bool, true, false, cond, List, [], ◌∷◌, ◌++◌, length, None, Some, unwrap_or, get_or, reverse, ap, subst, ◌∙◌, arith}
use Rattle.std.specs.List.{AllByRecursion, find, range_with_len}
use Rattle.std.specs.Option.{option_map_or}
use Rattle.std.proofs.lemmas.List.{reverse-append}
use Rattle.std.proofs.lemmas.List.Elements.{All-from_recursion, recursion_from_All}
use Rattle.std.proofs.lemmas.List.Sorted.{All-permutation, IsPermutation-reverse}
use Rattle.std.proofs.lemmas.Option.{slice_get-get_or}
use Rattle.shapers_buffer.specs.Glyphs.{Glyph, Glyphs}
use Rattle.shapers_buffer.proofs.MappedLists.{all-range}
use Rattle.shapers_buffer.proofs.Ranges.{range-append}
use Rattle.shapers_indic.specs.Glyphs.{greatest_place, least_place, passes, places}

-- the first place, and the last one, apart; none
pub places_first : (i n : ℕ) → i < n → places i n ≡ i ∷ places (i + 1) n
places_first i n l = let e : n - i ≡ suc (n - (i + 1)) = omega arith in ap (range_with_len i) e

pub places_last : (s i : ℕ) → s ≤ i → places s (i + 1) ≡ places s i ++ i ∷ []
places_last s i l =
    let e : i + 1 - s ≡ (i - s) + 1 = omega arith in
    let at : s + (i - s) ≡ i = omega arith in
    ap (range_with_len s) e ∙ range-append s (i - s) 1 ∙ ap (λ k. places s i ++ k ∷ []) at

pub places_none : (s e : ℕ) → e ≤ s → places s e ≡ []
places_none s e l = let n : e - s ≡ 0 = omega arith in ap (range_with_len s) n

-- the greatest place, with the last place apart
pub greatest_last : (P : ℕ → Bool) (s i : ℕ) → s ≤ i
    → greatest_place P s (i + 1) ≡ cond (P i) (Some i) (greatest_place P s i)
greatest_last P s i l = ap (λ xs. find P (reverse xs)) (places_last s i l)
    ∙ ap (find P) (reverse-append (places s i) (i ∷ []))

pub greatest_none : (P : ℕ → Bool) (s e : ℕ) → e ≤ s → greatest_place P s e ≡ None
greatest_none P s e l = ap (λ xs. find P (reverse xs)) (places_none s e l)

-- the least place, with the first place apart
pub least_first : (P : ℕ → Bool) (i n : ℕ) → i < n → least_place P i n ≡ cond (P i) (Some i) (least_place P (i + 1) n)
least_first P i n l = ap (find P) (places_first i n l)

-- what is said of a place by the glyph there
pub passes_there : (test : Glyph → Bool) (gs : Glyphs) (i : ℕ) (d : Glyph)
    → i < length gs → passes test gs i ≡ test (get_or gs i d)
passes_there test gs i d l = ap (λ o. option_map_or test o false) (slice_get-get_or gs i d l)

-- what is found lies where it is looked for
find_among : (test : ℕ → Bool) (P : ℕ → Type 0) (xs : List ℕ) (x : ℕ) → AllByRecursion P xs → find test xs ≡ Some x
    → P x
find_among test P [] x all found = absurd (cc found)
find_among test P (y ∷ ys) x all found = elim (test y) as (λ b. cond b (Some y) (find test ys) ≡ Some x → P x) [
  | true ↦ λ e. subst P (ap (λ o. unwrap_or o y) e) all.0
  | false ↦ λ e. find_among test P ys x all.1 e
] found

pub record PlaceWithin (s e j : ℕ) : Type 0 where
  pub low : s ≤ j
  pub high : j < e

all_places : (s e : ℕ) → AllByRecursion (PlaceWithin s e) (places s e)
all_places s e = all-range (PlaceWithin s e) s (e - s) (λ p low high. record { low = low; high = omega arith })

all_reversed : (P : ℕ → Type 0) (xs : List ℕ) → AllByRecursion P xs → AllByRecursion P (reverse xs)
all_reversed P xs all =
    recursion_from_All P (reverse xs)
    (All-permutation P xs (reverse xs) (IsPermutation-reverse xs) (All-from_recursion P xs all))

pub least_within : (test : ℕ → Bool) (s e j : ℕ) → least_place test s e ≡ Some j → PlaceWithin s e j
least_within test s e j found = find_among test (PlaceWithin s e) (places s e) j (all_places s e) found

pub greatest_within : (test : ℕ → Bool) (s e j : ℕ) → greatest_place test s e ≡ Some j → PlaceWithin s e j
greatest_within test s e j found =
    find_among test (PlaceWithin s e) (reverse (places s e)) j
    (all_reversed (PlaceWithin s e) (places s e) (all_places s e)) found
