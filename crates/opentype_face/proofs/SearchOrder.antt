-- A search by halves finds the first range that holds a number, where they are in order.
use Rattle.std.proofs.Common.{ℕ, zero, suc, ◌+◌, ◌-◌, ◌/◌, ◌<◌, ◌≤◌, None, arith, inl, inr}
use Rattle.std.proofs.lemmas.Bool.{cases_lt, cases_eq}
use Rattle.opentype_face.specs.Ranges.{bisect}
use Rattle.opentype_face.specs.SearchLaws.{AreRangesInOrder, Holds, IsFirstHolding, SearchLaw}
use Rattle.opentype_face.proofs.Searches.{below, above, within, none}

-- no range outside of those from low to high holds the number
record IsOutside (first last : ℕ → ℕ) (number count low high : ℕ) : Type 0 where
  before : (j : ℕ) → j < low → Holds first last number j → ⊥
  behind : (j : ℕ) → high ≤ j → j < count → Holds first last number j → ⊥

nowhere : (first last : ℕ → ℕ) (number count low high : ℕ) → high ≤ low →
    IsOutside first last number count low high → IsFirstHolding count first last number None
nowhere first last number count low high h o i lt holds = elim (cases_lt i low) [
  | inl a ↦ o.before i a holds
  | inr b ↦ o.behind i (omega arith) lt holds
]

-- a number below the first of range m is in none from m on
not_behind : (first last : ℕ → ℕ) (number count m : ℕ) → AreRangesInOrder count first last → number < first m →
    (j : ℕ) → m ≤ j → j < count → Holds first last number j → ⊥
not_behind first last number count m s b j from to holds = elim (cases_eq m j) [
  | inl same ↦ let it : number < first j = rw same at b in let x = holds.0 in omega arith
  | inr other ↦
      let mj : m < j = omega arith in
      let x = holds.0 in
      let y = s.ranges m (omega arith) in
      let z = s.apart m j mj to in
      omega arith
]

-- one above the last of range m is in none up to m
not_before : (first last : ℕ → ℕ) (number count m : ℕ) → AreRangesInOrder count first last → m < count →
    last m < number → (j : ℕ) → j ≤ m → Holds first last number j → ⊥
not_before first last number count m s inside a j to holds = elim (cases_eq m j) [
  | inl same ↦ let it : last j < number = rw same at a in let x = holds.1 in omega arith
  | inr other ↦
      let jm : j < m = omega arith in
      let x = holds.1 in
      let y = s.ranges m inside in
      let z = s.apart j m jm inside in
      omega arith
]

-- one in range m is in none before it
not_twice : (first last : ℕ → ℕ) (number count m : ℕ) → AreRangesInOrder count first last → m < count →
    first m ≤ number → (j : ℕ) → j < m → Holds first last number j → ⊥
not_twice first last number count m s inside f j lt holds =
    let x = holds.1 in
    let z = s.apart j m lt inside in
    omega arith

searched : (first last : ℕ → ℕ) (number count : ℕ) → AreRangesInOrder count first last → (n low high : ℕ) →
    high - low ≤ n → high ≤ count → IsOutside first last number count low high →
    IsFirstHolding count first last number (bisect n first last number low high)
searched first last number count s zero low high e h o =
    let ge : high ≤ low = omega arith in
    rw (none first last number low high zero ge) (nowhere first last number count low high ge o)
searched first last number count s (suc n) low high e h o = elim (cases_lt low high) [
  | inr ge ↦ rw (none first last number low high (suc n) ge) (nowhere first last number count low high ge o)
  | inl lt ↦
      let inside : low + (high - low - 1) / 2 < count = omega arith in
      elim (cases_lt number (first (low + (high - low - 1) / 2))) [
        | inl b ↦ rw (below first last number low high n lt b)
            (searched first last number count s n low (low + (high - low - 1) / 2) (omega arith) (omega arith)
            (record {
              before = o.before;
              behind = not_behind first last number count (low + (high - low - 1) / 2) s b;
            }))
        | inr f ↦ elim (cases_lt (last (low + (high - low - 1) / 2)) number) [
          | inl a ↦ rw (above first last number low high n lt f a)
              (searched first last number count s n (low + (high - low - 1) / 2 + 1) high (omega arith) h
              (record {
                before = λ j to. not_before first last number count (low + (high - low - 1) / 2) s inside a j (omega arith);
                behind = o.behind;
              }))
          | inr l ↦ rw (within first last number low high n lt f l)
              (inside, (f, l), not_twice first last number count (low + (high - low - 1) / 2) s inside f)
        ]
      ]
]

pub search_law : SearchLaw
search_law count first last number s =
    searched first last number count s count 0 count (omega arith) (omega arith)
    (record { before = λ j lt holds. omega arith; behind = λ j ge lt holds. omega arith })
