-- What cycles hold together is what the ways of their glyphs hold together.
use Rattle.std.proofs.Common.{ℕ, zero, suc, ◌+◌, ◌-◌, ◌<◌, ◌≤◌, ◌≡◌, ◌⊎◌, inl, inr, Bool, true, false, ◌||◌, ◌&&◌, nat_lt, max, min, cond, List, [], ◌∷◌, length, map, get_or, refl, sym, ◌∙◌, ap, subst, arith}
use Rattle.std.specs.Prelude.{filter, fold, nat_le}
use Rattle.std.specs.List.{range_with_len}
use Rattle.std.proofs.lemmas.Bool.{cases_Bool, cases_lt}
use Rattle.shapers_clusters.specs.Cuts.{held}
use Rattle.shapers_indic.specs.Glyphs.{places}
use Rattle.shapers_indic_initial.specs.CycleWalk.{EachOnce}
use Rattle.shapers_indic_initial.specs.InitialClusters.{all_ways, way_of}
use Rattle.shapers_indic_initial.specs.InitialOrder.{cycle, cycle_stretch, cycle_stretches, leads_cycle}
use Rattle.shapers_indic_initial.proofs.Cycles.{In, cycle_back, cycle_closed, cycle_within, in_or_not, way_keeps, all_true, fold_min-le, fold_max-le}

-- places of a range, of a filtered list
in_range : (a n x : ℕ) → a ≤ x → x < a + n → In x (range_with_len a n)
in_range a zero x low high = absurd (omega arith)
in_range a (suc n) x low high = elim (cases_lt a x) [
  | inl l ↦ inr (in_range (a + 1) n x (omega arith) (omega arith))
  | inr l ↦ inl (omega arith)
]

record InRange (a n x : ℕ) : Type 0 where
  pub low : a ≤ x
  pub high : x < a + n

range_in : (a n x : ℕ) → In x (range_with_len a n) → InRange a n x
range_in a zero x i = absurd i
range_in a (suc n) x i = elim i [
  | inl e ↦ search arith
  | inr j ↦ let k = range_in (a + 1) n x j in search arith
]

in_filter : (test : ℕ → Bool) (xs : List ℕ) (x : ℕ) → test x ≡ true → In x xs → In x (filter test xs)
in_filter test [] x t i = absurd i
in_filter test (y ∷ ys) x t i = elim i [
  | inl e ↦ subst (λ b. In x (cond b (y ∷ filter test ys) (filter test ys))) (sym (ap test (sym e) ∙ t)) (inl e)
  | inr j ↦ search (arith, in_filter test ys x t j)
]

filter_in : (test : ℕ → Bool) (xs : List ℕ) (x : ℕ) → In x (filter test xs) → In x xs
filter_in test [] x i = i
filter_in test (y ∷ ys) x i =
    elim (test y) as (λ b. In x (cond b (y ∷ filter test ys) (filter test ys)) → (x ≡ y) ⊎ In x ys) [
      | true ↦ λ j. elim j [ inl e ↦ inl e | inr k ↦ inr (filter_in test ys x k) ]
      | false ↦ λ j. inr (filter_in test ys x j)
    ] i

-- which stretches hold two neighbours
holds : (st : ℕ × ℕ) (r : ℕ) → st.0 < r → r < st.1 → (nat_lt st.0 r && nat_lt r st.1) ≡ true
holds = grind arith

record Holds (st : ℕ × ℕ) (r : ℕ) : Type 0 where
  pub low : st.0 < r
  pub high : r < st.1

holds_both : (s e r : ℕ) → (nat_lt s r && nat_lt r e) ≡ true → Holds (s, e) r
holds_both = search arith

held_by : (f : ℕ → ℕ × ℕ) (xs : List ℕ) (x r : ℕ) → In x xs → Holds (f x) r → held (map f xs) r ≡ true
held_by f [] x r i h = absurd i
held_by f (y ∷ ys) x r i h = elim i [
  | inl e ↦ (search arith)
  | inr j ↦ search (arith, held_by f ys x r j h)
]

record HeldBy (f : ℕ → ℕ × ℕ) (xs : List ℕ) (r : ℕ) : Type 0 where
  pub place : ℕ
  pub among : In place xs
  pub holds_it : Holds (f place) r

by_held : (f : ℕ → ℕ × ℕ) (xs : List ℕ) (r : ℕ) → held (map f xs) r ≡ true → HeldBy f xs r
by_held f [] r h = absurd (cc h)
by_held f (y ∷ ys) r h = elim (cases_Bool _) [
  | inl t ↦ record { place = y; among = inl refl; holds_it = holds_both (f y).0 (f y).1 r t }
  | inr n ↦
      let rest = by_held f ys r (sym (ap (λ b. b || held (map f ys) r) n) ∙ h) in
      record { place = rest.place; among = inr rest.among; holds_it = rest.holds_it }
]

-- the least and the greatest of some numbers: bounds that are reached

least_bound : (m : ℕ) (xs : List ℕ) (x : ℕ) → In x xs → fold min m xs ≤ x
least_bound m [] x i = absurd i
least_bound m (y ∷ ys) x i = elim i [
  | inl e ↦ (let h = fold_min-le (min m y) ys in omega arith)
  | inr j ↦ least_bound (min m y) ys x j
]

pub greatest_bound : (m : ℕ) (xs : List ℕ) (x : ℕ) → In x xs → x ≤ fold max m xs
greatest_bound m [] x i = absurd i
greatest_bound m (y ∷ ys) x i = elim i [
  | inl e ↦ (let h = fold_max-le (max m y) ys in omega arith)
  | inr j ↦ greatest_bound (max m y) ys x j
]

least_reached : (m : ℕ) (xs : List ℕ) → (fold min m xs ≡ m) ⊎ In (fold min m xs) xs
least_reached m [] = inl refl
least_reached m (y ∷ ys) = elim (least_reached (min m y) ys) [
  | inr j ↦ inr (inr j)
  | inl e ↦ elim (cases_lt y m) [
    | inl l ↦ inr (inl (e ∙ omega arith))
    | inr l ↦ inl (e ∙ omega arith)
  ]
]

greatest_reached : (m : ℕ) (xs : List ℕ) → (fold max m xs ≡ m) ⊎ In (fold max m xs) xs
greatest_reached m [] = inl refl
greatest_reached m (y ∷ ys) = elim (greatest_reached (max m y) ys) [
  | inr j ↦ inr (inr j)
  | inl e ↦ elim (cases_lt m y) [
    | inl l ↦ inr (inl (e ∙ omega arith))
    | inr l ↦ inl (e ∙ omega arith)
  ]
]

-- a cycle holds the cycles of its places
cycle_holds : (f : List ℕ) (p z y : ℕ) → p < length f → EachOnce f → In z (cycle f p) → In y (cycle f z)
    → In y (cycle f p)
cycle_holds f p z y h o i j = elim j [
  | inl e ↦ search arith
  | inr k ↦ way_keeps _ f z _ _ y (λ w a _. cycle_closed f p w h o a) (cycle_closed f p z h o i) k
]

-- the place that leads a cycle with a place from the base on
record Leader (f : List ℕ) (base p : ℕ) : Type 0 where
  pub place : ℕ
  pub among : In place (places base (length f))
  pub leads : leads_cycle f base place ≡ true
  pub has : In p (cycle f place)

record LeastIn (xs : List ℕ) (a : ℕ) : Type 0 where
  pub place : ℕ
  pub low : a ≤ place
  pub among : In place xs
  pub least : (x : ℕ) → a ≤ x → x < place → In x xs → ⊥

least_in : (xs : List ℕ) (a k p : ℕ) → a + k ≡ p → In p xs → LeastIn xs a
least_in xs a zero p e i = search arith
least_in xs a (suc k) p e i = elim (in_or_not a xs) [
  | inl j ↦ search arith
  | inr n ↦
      search (arith, (least_in xs (a + 1) k p (omega arith) i).least)
]

before_or_from : (base l q : ℕ) → ((base ≤ q) → l ≤ q) → (nat_lt q base || nat_le l q) ≡ true
before_or_from = search arith

leader : (f : List ℕ) (base p : ℕ) → base ≤ p → p < length f → EachOnce f → Leader f base p
leader f base p b h o =
    let found = least_in (cycle f p) base (p - base) p (omega arith) (inl refl) in
    let l = found.place in
    let within = cycle_within f p l h o found.among in
    record {
      place = l;
      among = search (arith, in_range);
      leads = all_true _ (cycle f l)
          (λ q i. before_or_from base l q (λ k. elim (cases_lt q l) [
            | inl m ↦ search (found.least, cycle_holds)
            | inr m ↦ m
          ]));
      has = search cycle_back;
    }

-- a way lies within what its cycle merges
way_in_cycle : (f : List ℕ) (base p r : ℕ) → base ≤ p → p < length f → EachOnce f → Holds (way_of f base p) r
    → held (cycle_stretches f base) r ≡ true
way_in_cycle f base p r b h o w =
    let found = leader f base p b h o in
    let l = found.place in
    let c = cycle f l in
    let n = range_in base _ l found.among in
    let next = cycle_closed f l p (omega arith) o found.has in
    held_by _ _ l r (search in_filter)
    (
    search (
      arith,
      least_bound l c p found.has,
      least_bound l c _ next,
      greatest_bound l c p found.has,
      greatest_bound l c _ next,
    ))

-- where a cycle has places on both sides, some place of it has the next one on the other side
record Crosses (f xs : List ℕ) (r : ℕ) : Type 0 where
  pub place : ℕ
  pub among : In place xs
  pub from_r : r ≤ place
  pub next_below : get_or f place 0 < r

crosses_or_not : (f xs : List ℕ) (r : ℕ) → Crosses f xs r ⊎ ((x : ℕ) → In x xs → r ≤ x → r ≤ get_or f x 0)
crosses_or_not f [] r = inr (λ x i _. absurd i)
crosses_or_not f (y ∷ ys) r = elim (crosses_or_not f ys r) [
  | inl c ↦ inl (record { place = c.place; among = inr c.among; from_r = c.from_r; next_below = c.next_below })
  | inr none ↦ elim (cases_lt y r) [
    | inl l ↦ inr (λ x i k. elim i [ inl e ↦ absurd (omega arith) | inr j ↦ none x j k ])
    | inr l ↦ elim (cases_lt _ r) [
      | inl m ↦ inl (record { place = y; among = inl refl; from_r = l; next_below = m })
      | inr m ↦ inr (λ x i k. elim i [ inl e ↦ subst (λ z. r ≤ get_or f z 0) (sym e) m | inr j ↦ none x j k ])
    ]
  ]
]

stays_above : (f : List ℕ) (p z w r : ℕ) → p < length f → EachOnce f
    → ((x : ℕ) → In x (cycle f p) → r ≤ x → r ≤ get_or f x 0) → In z (cycle f p) → r ≤ z → In w (cycle f p) → r ≤ w
stays_above f p z w r h o none i k j =
    let A : ℕ → Type 0 = λ y. In y (cycle f p) × (r ≤ y) in
    let back = cycle_holds f z p w (cycle_within f p z h o i) o (cycle_back f p z h o i) j in
    elim back [
      | inl e ↦ omega arith
      | inr m ↦ (way_keeps A f z _ _ w (search (arith, cycle_closed)) (cycle_closed f p z h o i, none z i k) m).1
    ]

cycle_in_ways : (f : List ℕ) (base l r : ℕ) → l < length f → EachOnce f → Holds (cycle_stretch f base l) r
    → held (all_ways f base) r ≡ true
cycle_in_ways f base l r h o w =
    let c = cycle f l in
    elim (crosses_or_not f c r) [
      | inl x ↦ (
          let inside = cycle_within f l x.place h o x.among in
          held_by _ _ x.place r (search (arith, in_range)) (search arith))
      | inr none ↦
          search (
            arith,
            stays_above f l _ _ r h o none (elim (greatest_reached l c) [ inl e ↦ inl e | inr i ↦ i ]) (omega arith)
                (elim (least_reached l c) [ inl e ↦ inl e | inr i ↦ i ]),
          )
    ]

same_bool : (a b : Bool) → (a ≡ true → b ≡ true) → (b ≡ true → a ≡ true) → a ≡ b
same_bool true b f g = sym (f refl)
same_bool false true f g = g refl
same_bool false false f g = refl

pub held_by_ways : (f : List ℕ) (base r : ℕ) → EachOnce f → held (cycle_stretches f base) r ≡ held (all_ways f base) r
held_by_ways f base r o = same_bool _ _ (λ t.
    let x = by_held (cycle_stretch f base) _ r t in
    let n = range_in base _ x.place (filter_in (leads_cycle f base) _ x.place x.among) in
    search (arith, cycle_in_ways)) (λ t.
    let x = by_held _ _ r t in
    let n = range_in base (length f - base) x.place x.among in
    search (arith, way_in_cycle))
