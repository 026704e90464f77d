-- Cycles of a list that has each of its places once.
use Rattle.std.proofs.Common.{◌≡◌, ◌≢◌, ◌⊎◌, inl, inr, ℕ, zero, suc, ◌<◌, ◌==◌, eqb, true, false, ◌||◌, List, [], ◌∷◌, length, get_or, set, refl, sym, ap, ◌∙◌, subst, arith, length-set, get_or-set_same, get_or-set_other, if◌then◌else◌, Bool, fold, min, max, ◌≤◌}
use Rattle.std.specs.Prelude.{swap}
use Rattle.std.specs.List.{AllByRecursion, IsDistinct, list_any, list_all}
use Rattle.std.proofs.lemmas.Bool.{cases_eq}
use Rattle.std.proofs.lemmas.List.Edits.{swap_is, length-swap}
use Rattle.std.proofs.lemmas.Map.Keys.{IsDistinct-cons}
use Rattle.std.proofs.lemmas.Map.Steps.{length-le_from_distinct_below}
use Rattle.shapers_indic_initial.specs.CycleWalk.{EachOnce}
use Rattle.shapers_indic_initial.specs.InitialOrder.{cycle, way_to}

-- an element of a list
abbrev pub In : ℕ → List ℕ → Type 0
In x [] = ⊥
In x (y ∷ ys) = (x ≡ y) ⊎ In x ys

pub in_or_not : (x : ℕ) (xs : List ℕ) → In x xs ⊎ (In x xs → ⊥)
in_or_not x [] = inr (λ i. i)
in_or_not x (y ∷ ys) = elim (cases_eq x y) [
  | inl e ↦ inl (inl e)
  | inr n ↦ elim (in_or_not x ys) [
    | inl i ↦ inl (inr i)
    | inr o ↦ inr (λ i. elim i [ inl e ↦ n e | inr i ↦ o i ])
  ]
]

-- a test that all of some numbers pass, and their least and greatest with another
pub all_true : (test : ℕ → Bool) (xs : List ℕ) → ((x : ℕ) → In x xs → test x ≡ true) → list_all test xs ≡ true
all_true test [] each = refl
all_true test (y ∷ ys) each = search (arith, all_true test ys (λ x i. each x (inr i)))

pub fold_min-le : (x : ℕ) (xs : List ℕ) → fold min x xs ≤ x
fold_min-le x [] = omega arith
fold_min-le x (y ∷ ys) = omega (arith, fold_min-le (min x y) ys)

pub fold_max-le : (x : ℕ) (xs : List ℕ) → x ≤ fold max x xs
fold_max-le x [] = omega arith
fold_max-le x (y ∷ ys) = omega (arith, fold_max-le (max x y) ys)

-- two places that change what they have
abbrev pub turned : ℕ → ℕ → ℕ → ℕ
turned p q i = if i == q then p else if i == p then q else i

pub turned_second : (p q i : ℕ) → i ≡ q → turned p q i ≡ p
turned_second = grind arith

pub turned_first : (p q i : ℕ) → i ≢ q → i ≡ p → turned p q i ≡ q
turned_first = grind arith

pub turned_other : (p q i : ℕ) → i ≢ q → i ≢ p → turned p q i ≡ i
turned_other = grind arith

turned_within : (n p q i : ℕ) → p < n → q < n → i < n → turned p q i < n
turned_within = grind arith

turned_once : (p q i j : ℕ) → turned p q i ≡ turned p q j → i ≡ j
turned_once = grind arith

pub swap_at : (xs : List ℕ) (p q i : ℕ) → p < length xs → q < length xs
    → get_or (swap xs p q) i 0 ≡ get_or xs (turned p q i) 0
swap_at xs p q i h k =
    let a = get_or xs q 0 in
    let b = get_or xs p 0 in
    ap (λ ys. get_or ys i 0) (sym (swap_is xs p q 0 h k))
    ∙ elim (cases_eq i q) [
      | inl e ↦ ap (λ m. get_or (set (set xs p a) q b) m 0) e ∙ get_or-set_same _ q b 0 (omega (
        arith,
        length-set xs p a,
      )) ∙ sym (ap (λ m. get_or xs m 0) (turned_second p q i e))
      | inr n ↦ get_or-set_other _ q i b 0 n ∙ elim
          (cases_eq i p) [
            | inl e ↦ ap (λ m. get_or (set xs p a) m 0) e ∙ get_or-set_same xs p a 0 h ∙ sym (ap (λ m.
                get_or xs m 0) (turned_first p q i n e))
            | inr m ↦ get_or-set_other xs p i a 0 m ∙ sym (ap (λ m. get_or xs m 0) (turned_other p q i n m))
          ]
    ]

pub once-swap : (f : List ℕ) (p q : ℕ) → p < length f → q < length f → EachOnce f → EachOnce (swap f p q)
once-swap f p q h k o =
    let n = length-swap f p q in
    record {
      within = search (arith, swap_at);
      once = λ i j l m e. turned_once p q i j (o.once _ _ (turned_within _ p q i h k (omega arith))
          (turned_within _ p q j h k (omega arith)) (sym (swap_at f p q i h k) ∙ e ∙ swap_at f p q j h k));
    }

-- the way to p, place by place
pub way_at : (f : List ℕ) (p m q : ℕ) → q ≡ p → way_to f p m q ≡ []
way_at f p zero q e = refl
way_at f p (suc m) q e = search arith

pub way_next : (f : List ℕ) (p m q : ℕ) → q ≢ p → way_to f p (suc m) q ≡ q ∷ way_to f p m (get_or f q 0)
way_next = search arith

-- two lists that agree on a set of places that the way keeps to
pub way_agrees : (A : ℕ → Type 0) (f g : List ℕ) (p m x : ℕ)
    → ((y : ℕ) → A y → y ≢ p → (get_or f y 0 ≡ get_or g y 0) × A (get_or f y 0)) → A x → way_to f p m x ≡ way_to g p m x
way_agrees A f g p zero x step a = refl
way_agrees A f g p (suc m) x step a = elim (cases_eq x p) [
  | inl e ↦ search arith
  | inr n ↦
      search (arith, way_agrees A f g p m _ step (step x a n).1)
]

pub way_keeps : (A : ℕ → Type 0) (f : List ℕ) (p m x y : ℕ) → ((z : ℕ) → A z → z ≢ p → A (get_or f z 0)) → A x
    → In y (way_to f p m x) → A y
way_keeps A f p zero x y step a i = absurd i
way_keeps A f p (suc m) x y step a i = elim (cases_eq x p) [
  | inl e ↦ search arith
  | inr n ↦ elim (subst (In y) (way_next f p m x n) i) [
    | inl e ↦ subst A (sym e) a
    | inr i ↦ way_keeps A f p m _ y step (step x a n) i
  ]
]

way_apart : (f : List ℕ) (p m x y : ℕ) → In y (way_to f p m x) → y ≢ p
way_apart f p zero x y i = absurd i
way_apart f p (suc m) x y i = elim (cases_eq x p) [
  | inl e ↦ search arith
  | inr n ↦ elim (subst (In y) (way_next f p m x n) i) [
    | inl e ↦ λ s. n (sym e ∙ s)
    | inr i ↦ way_apart f p m _ y i
  ]
]

-- where the way has come to after so many places
abbrev ends_at : List ℕ → ℕ → ℕ → ℕ → ℕ
ends_at f p zero q = q
ends_at f p (suc m) q = if q == p then p else ends_at f p m (get_or f q 0)

ends_there : (f : List ℕ) (p m q : ℕ) → q ≡ p → ends_at f p m q ≡ p
ends_there f p zero q e = e
ends_there f p (suc m) q e = search arith

ends_next : (f : List ℕ) (p m q : ℕ) → q ≢ p → ends_at f p (suc m) q ≡ ends_at f p m (get_or f q 0)
ends_next = search arith

-- a way that hasn't come back is as long as may be
length-way : (f : List ℕ) (p m q : ℕ) → ends_at f p m q ≢ p → length (way_to f p m q) ≡ m
length-way f p zero q n = refl
length-way f p (suc m) q n = elim (cases_eq q p) [
  | inl e ↦ search arith
  | inr o ↦ cc (way_next f p m q o, length-way f p m _ (λ e. n (ends_next f p m q o ∙ e)))
]

-- what leads back to p, but for its first place: with that one spent the rest of the way is the same
pub record OnTheWay (f : List ℕ) (q y : ℕ) : Type 0 where
  pub inside : y < length f
  pub other : y ≢ q

pub keeps_off : (f : List ℕ) (p : ℕ) → p < length f → EachOnce f → (y : ℕ) → OnTheWay f (get_or f p 0) y → y ≢ p
    → OnTheWay f (get_or f p 0) (get_or f y 0)
keeps_off f p h o = search arith

pub second_off : (f : List ℕ) (p : ℕ) → p < length f → EachOnce f → get_or f p 0 ≢ p
    → OnTheWay f (get_or f p 0) (get_or f (get_or f p 0) 0)
second_off f p h o = search arith

pub way_spent : (f : List ℕ) (p m : ℕ) → p < length f → EachOnce f → get_or f p 0 ≢ p → let q = get_or f p 0 in
    way_to f p m (get_or f q 0) ≡ way_to (swap f p q) p m (get_or (swap f p q) p 0)
way_spent f p m h o n =
    let q = get_or f p 0 in
    let k = o.within p h in
    cc (
      way_agrees _ f _ p m _
          (λ y a t. (
            sym (swap_at f p q y h k ∙ ap (λ i. get_or f i 0) (turned_other p q y a.other t)),
            keeps_off f p h o y a t,
          )) (second_off f p h o n),
      swap_at f p q p h k,
      turned_first p q p (λ e. n (sym e)) refl,
    )

-- no place is on it twice
apart_all : (x : ℕ) (ys : List ℕ) → ((y : ℕ) → In y ys → y ≢ x) → AllByRecursion (λ y. eqb x y ≡ false) ys
apart_all x [] apart = tt
apart_all x (y ∷ ys) apart = let n = apart y (inl refl) in (grind arith, apart_all x ys (λ z i. apart z (inr i)))

distinct_way : (f : List ℕ) (p m : ℕ) → p < length f → EachOnce f → IsDistinct eqb (way_to f p m (get_or f p 0))
unfolding IsDistinct
distinct_way f p zero h o = tt
distinct_way f p (suc m) h o = elim (cases_eq _ p) [
  | inl e ↦ subst (IsDistinct eqb) (sym (way_at f p (suc m) _ e)) tt
  | inr n ↦
      let q = get_or f p 0 in
      let rest = subst (IsDistinct eqb) (sym (way_spent f p m h o n)) (distinct_way
      (swap f p q) p m (omega (arith, length-swap f p q)) (once-swap f p q h (o.within p h) o)) in
      search (
        arith,
        IsDistinct-cons eqb q _
            (apart_all q _ (λ (y : ℕ) (i : In y (way_to f p m (get_or f q 0))). (way_keeps _ f p m _ y (λ z a t.
            keeps_off f p h o z a t) (second_off f p h o n) i).other)) rest,
      )
]

any_is_in : (q : ℕ) (xs : List ℕ) → list_any (eqb q) xs ≡ true → In q xs
any_is_in q [] e = absurd (cc)
any_is_in q (x ∷ xs) e = elim (cases_eq q x) [
  | inl s ↦ inl s
  | inr n ↦ let t : eqb q x ≡ false =
      grind arith in inr (any_is_in q xs (sym (ap (λ b. b || list_any (eqb q) xs) t) ∙ e))
]

-- all places of a cycle are places of the list
pub cycle_within : (f : List ℕ) (p y : ℕ) → p < length f → EachOnce f → In y (cycle f p) → y < length f
cycle_within f p y h o i = elim i [
  | inl e ↦ omega arith
  | inr j ↦ way_keeps _ f p _ _ y (λ z a t. o.within z a) (o.within p h) j
]

-- so the way comes back
pub comes_back : (f : List ℕ) (p : ℕ) → p < length f → EachOnce f → ends_at f p (length f) (get_or f p 0) ≡ p
comes_back f p h o = elim (cases_eq _ p) [
  | inl e ↦ e
  | inr n ↦
      let way = way_to f p (length f) _ in
      let long = length-way f p _ (get_or f p 0) n in
      let short = length-le_from_distinct_below _ _
      (IsDistinct-cons eqb p way (search (apart_all, way_apart)) (distinct_way f p (length f) h o))
      (λ q e. cycle_within f p q h o (any_is_in q (p ∷ way) e)) in
      search arith
]

-- the place behind one of the cycle is in it
head_in : (f : List ℕ) (p m q : ℕ) → ends_at f p m q ≡ p → In q (p ∷ way_to f p m q)
head_in f p zero q e = inl e
head_in f p (suc m) q e = elim (cases_eq q p) [
  | inl s ↦ inl s
  | inr n ↦ inr (subst (In q) (sym (way_next f p m q n)) (inl refl))
]

way_closed : (f : List ℕ) (p m q x : ℕ) → ends_at f p m q ≡ p → In x (way_to f p m q)
    → In (get_or f x 0) (p ∷ way_to f p m q)
way_closed f p zero q x e i = absurd i
way_closed f p (suc m) q x e i = elim (cases_eq q p) [
  | inl s ↦ search arith
  | inr n ↦
      let rest = way_to f p m _ in
      let back = sym (ends_next f p m q n) ∙ e in
      let wider = λ (y : ℕ) (j : In y (p ∷ rest)). subst (λ ys. In y (p ∷ ys)) (sym (way_next f p m q n))
      (elim j as (λ _. In y (p ∷ (q ∷ rest))) [ inl s ↦ inl s | inr k ↦ inr (inr k) ]) in
      elim (subst (In x) (way_next f p m q n) i) [
        | inl s ↦ wider _ (subst (λ z. In (get_or f z 0) (p ∷ rest)) (sym s) (head_in f p m _ back))
        | inr j ↦ wider _ (way_closed f p m _ x back j)
      ]
]

pub cycle_closed : (f : List ℕ) (p x : ℕ) → p < length f → EachOnce f → In x (cycle f p) → In (get_or f x 0) (cycle f p)
cycle_closed = search (arith, comes_back, way_closed)

-- the place before one of the cycle is in it
record CameFrom (f : List ℕ) (p m z y : ℕ) : Type 0 where
  pub place : ℕ
  pub among : (place ≡ z) ⊎ In place (way_to f p m (get_or f z 0))
  pub leads : get_or f place 0 ≡ y

came_further : (f : List ℕ) (p m z y : ℕ) → get_or f z 0 ≢ p → CameFrom f p m (get_or f z 0) y
    → CameFrom f p (suc m) z y
came_further = search arith

came_from : (f : List ℕ) (p m z y : ℕ) → In y (way_to f p m (get_or f z 0)) → CameFrom f p m z y
came_from f p zero z y i = absurd i
came_from f p (suc m) z y i = elim (cases_eq _ p) [
  | inl s ↦ absurd (subst (In y) (way_at f p (suc m) _ s) i)
  | inr n ↦ elim (subst (In y) (way_next f p m _ n) i) [
    | inl s ↦ record { place = z; among = inl refl; leads = sym s }
    | inr j ↦ came_further f p m z y n (came_from f p m _ y j)
  ]
]

came_back : (f : List ℕ) (p m z : ℕ) → ends_at f p m (get_or f z 0) ≡ p → CameFrom f p m z p
came_back f p zero z e = record { place = z; among = inl refl; leads = e }
came_back f p (suc m) z e = elim (cases_eq _ p) [
  | inl s ↦ record { place = z; among = inl refl; leads = s }
  | inr n ↦ came_further f p m z p n (came_back f p m _ (sym (ends_next f p m _ n) ∙ e))
]

from_cycle : (f : List ℕ) (p y : ℕ) → p < length f → EachOnce f → In y (cycle f p) → CameFrom f p (length f) p y
from_cycle = search (arith, came_back, comes_back, came_from)

pub cycle_closed_back : (f : List ℕ) (p x : ℕ) → p < length f → x < length f → EachOnce f
    → In (get_or f x 0) (cycle f p) → In x (cycle f p)
cycle_closed_back f p x h l o i =
    let c = from_cycle f p _ h o i in
    let same = o.once c.place x (cycle_within f p c.place h o c.among) l c.leads in
    search arith

-- what p leads to leads to p
leads_back : (f : List ℕ) (p m q r : ℕ) → q < length f → r < length f → EachOnce f → In r (way_to f p m q)
    → In q (cycle f r)
leads_back f p zero q r h k o i = absurd i
leads_back f p (suc m) q r h k o i = elim (cases_eq q p) [
  | inl s ↦ search arith
  | inr n ↦ elim (subst (In r) (way_next f p m q n) i) [
    | inl s ↦ inl (sym s)
    | inr j ↦ cycle_closed_back f r q k h o (leads_back f p m _ r (o.within q h) k o j)
  ]
]

pub cycle_back : (f : List ℕ) (p r : ℕ) → p < length f → EachOnce f → In r (cycle f p) → In p (cycle f r)
cycle_back f p r h o i = elim i [
  | inl s ↦ inl (sym s)
  | inr j ↦
      let k = cycle_within f p r h o (inr j) in
      search (arith, cycle_closed_back, leads_back)
]
