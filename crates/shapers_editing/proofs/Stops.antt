-- The clusters that are less than all behind them: they rise, and reach each cluster.
use Rattle.std.proofs.Common.{◌≡◌, ℕ, zero, suc, ◌+◌, ◌<◌, ◌≤◌, ◌⊎◌, true, false, cond, List, [], ◌∷◌, refl, ap, subst, ◌∙◌, arith, inl, inr, ⊎_elim, get_or, add-zero}
use Rattle.std.proofs.lemmas.Bool.{and_parts, cases_lt, le-leb, lt-ltb, ltb-true}
use Rattle.std.proofs.lemmas.Bool.Decides.{nat_tests}
use Rattle.std.specs.Prelude.{nat_le, nat_lt, ◌&&◌}
use Rattle.std.specs.List.{AllByRecursion, AllPairs, Contains, count_by, list_all}
use Rattle.std.proofs.lemmas.List.Elements.{All-from_recursion}
use Rattle.std.proofs.lemmas.List.Sums.{sum_by-cons}
use Rattle.std.proofs.lemmas.List.Kept.{AllPairs-cons}
use Rattle.rustybuzz_shapers.proofs.Monotone.{all_weaker}
use Rattle.shapers_editing.specs.Carets.{lesser, intervals, has_place}

-- membership, by recursion
abbrev pub In : List ℕ → ℕ → Type 0
In [] x = ⊥
In (y ∷ ys) x = (y ≡ x) ⊎ In ys x

pub in-contains : (xs : List ℕ) (x : ℕ) → In xs x → Contains xs x
in-contains [] x i = absurd i
in-contains (y ∷ ys) x (inl e) = (0, omega arith, e)
in-contains (y ∷ ys) x (inr i) = let (k, l, e) = in-contains ys x i in (suc k, omega arith, e)

pub contains-in : (xs : List ℕ) (x : ℕ) → Contains xs x → In xs x
contains-in [] x (k, l, e) = absurd (omega arith)
contains-in (y ∷ ys) x (zero, l, e) = inl e
contains-in (y ∷ ys) x (suc k, l, e) = inr (contains-in ys x (k, omega arith, e))

pub at-in : (P : ℕ → Type 0) (xs : List ℕ) (x : ℕ) → AllByRecursion P xs → In xs x → P x
at-in P [] x a i = absurd i
at-in P (y ∷ ys) x a (inl e) = subst P e a.0
at-in P (y ∷ ys) x a (inr i) = at-in P ys x a.1 i

-- what a test of all says
pub all-above : (c : ℕ) (cs : List ℕ) → list_all (λ d. nat_lt c d) cs ≡ true → AllByRecursion (λ d. c < d) cs
all-above c [] h = tt
all-above c (d ∷ ds) h =
    let (l, r) = and_parts (nat_lt c d) (list_all (λ d. nat_lt c d) ds) h in
    (ltb-true c d l, all-above c ds r)

pub some-below : (c : ℕ) (cs : List ℕ) → list_all (λ d. nat_lt c d) cs ≡ false → (d : ℕ) × In cs d × (d ≤ c)
some-below c [] h = absurd cc
some-below c (d ∷ ds) h =
    ⊎_elim
    (λ l. let (e, i, b) = some-below c ds (subst (λ b. (b && list_all (λ d. nat_lt c d) ds) ≡ false) (lt-ltb c d l) h)
    in (e, inr i, b))
    (λ l. (d, inl refl, l))
    (cases_lt c d)

-- each of them is one of the clusters
pub lesser-all : (P : ℕ → Type 0) (cs : List ℕ) → AllByRecursion P cs → AllByRecursion P (lesser cs)
lesser-all P [] a = tt
lesser-all P (c ∷ cs) a =
    elim (list_all (λ d. nat_lt c d) cs) as (λ b. AllByRecursion P (cond b (c ∷ lesser cs) (lesser cs))) [
      | true ↦ (a.0, lesser-all P cs a.1)
      | false ↦ lesser-all P cs a.1
    ]

-- they rise
pub lesser-rises : (cs : List ℕ) → AllPairs (λ a b. a < b) (lesser cs)
lesser-rises [] = λ i j d a b. absurd (omega arith)
lesser-rises (c ∷ cs) =
    elim (list_all (λ d. nat_lt c d) cs) as (λ b. list_all (λ d. nat_lt c d) cs ≡ b → AllPairs (λ a b. a < b)
    (cond b (c ∷ lesser cs) (lesser cs))) [
      | true ↦ λ h. AllPairs-cons (λ a b. a < b) c (lesser cs)
          (All-from_recursion (λ d. c < d) (lesser cs) (lesser-all (λ d. c < d) cs (all-above c cs h)))
          (lesser-rises cs)
      | false ↦ λ h. lesser-rises cs
    ] refl

-- one of them is at most the place
abbrev pub IsReached : List ℕ → ℕ → Type 0
IsReached [] p = ⊥
IsReached (s ∷ ss) p = (s ≤ p) ⊎ IsReached ss p

reaches-up : (ss : List ℕ) (c p : ℕ) → c ≤ p → IsReached ss c → IsReached ss p
reaches-up [] c p l r = r
reaches-up (s ∷ ss) c p l (inl h) = inl (omega arith)
reaches-up (s ∷ ss) c p l (inr r) = inr (reaches-up ss c p l r)

lesser-reaches : (cs : List ℕ) (c : ℕ) → In cs c → IsReached (lesser cs) c
lesser-reaches [] c i = absurd i
lesser-reaches (x ∷ cs) c i =
    elim (list_all (λ d. nat_lt x d) cs) as (λ b. list_all (λ d. nat_lt x d) cs ≡ b → IsReached
    (cond b (x ∷ lesser cs) (lesser cs)) c) [
      | true ↦ λ h. ⊎_elim (λ e. inl (omega arith)) (λ j. inr (lesser-reaches cs c j)) i
      | false ↦ λ h. ⊎_elim (λ e. let (d, j, l) = some-below x cs h in reaches-up (lesser cs) d c (omega arith)
          (lesser-reaches cs d j)) (λ j. lesser-reaches cs c j) i
    ] refl

pub reached : (cs : List ℕ) (c p : ℕ) → Contains cs c → c ≤ p → IsReached (lesser cs) p
reached cs c p i l = reaches-up (lesser cs) c p l (lesser-reaches cs c (contains-in cs c i))

least-first : (c : ℕ) (cs : List ℕ) (d : ℕ) → AllPairs (λ a b. a ≤ b) (c ∷ cs) → In cs d → c ≤ d
least-first c cs d r i =
    let (k, l, e) = in-contains cs d i in
    let h : c ≤ get_or cs k d = r 0 (suc k) d (omega arith) (omega arith) in
    omega arith

-- where clusters rise, each is one of them
pub each-lesser : (cs : List ℕ) → AllPairs (λ a b. a ≤ b) cs → AllByRecursion (In (lesser cs)) cs
each-lesser [] r = tt
each-lesser (c ∷ cs) r =
    let later : AllPairs (λ a b. a ≤ b) cs = (λ i j d l m. r (suc i) (suc j) d (omega arith) (omega arith)) in
    let rest = each-lesser cs later in
    elim (list_all (λ d. nat_lt c d) cs) as (λ b. list_all (λ d. nat_lt c d) cs ≡ b → AllByRecursion
    (In (cond b (c ∷ lesser cs) (lesser cs))) (c ∷ cs)) [
      | true ↦ λ h. (inl refl, all_weaker (In (lesser cs)) (In (c ∷ lesser cs)) (λ x i. inr i) cs rest)
      | false ↦ λ h.
          let (d, i, l) = some-below c cs h in
          let above : c ≤ d = least-first c cs d r i in
          (subst (In (lesser cs)) (omega arith) (at-in (In (lesser cs)) cs d rest i), rest)
    ] refl

-- a chain of places that rise up to the end
abbrev Chain : ℕ → List ℕ → ℕ → Type 0
Chain s [] end = s < end
Chain s (t ∷ ts) end = (s < t) × Chain t ts end

abbrev Rising : List ℕ → ℕ → Type 0
Rising [] end = Unit {0}
Rising (s ∷ ss) end = Chain s ss end

chained : (s : ℕ) (ss : List ℕ) (end : ℕ) → AllPairs (λ a b. a < b) (s ∷ ss) → AllByRecursion (λ c. c < end) (s ∷ ss)
    → Chain s ss end
chained s [] end r a = a.0
chained s (t ∷ ts) end r a = (
  r 0 1 0 (omega arith) (omega arith),
  chained t ts end
      (λ i j d l m. r (suc i) (suc j) d (omega arith) (omega arith)) a.1,
)

first-reaches : (s : ℕ) (ss : List ℕ) (end p : ℕ) → Chain s ss end → IsReached (s ∷ ss) p → s ≤ p
first-reaches s [] end p h (inl l) = l
first-reaches s [] end p h (inr r) = absurd r
first-reaches s (t ∷ ts) end p h (inl l) = l
first-reaches s (t ∷ ts) end p h (inr r) = let l = first-reaches t ts end p h.1 r in omega arith

counted : (s t end p : ℕ) → s < t → t < end → (n : ℕ) → n ≡ cond (nat_le t p && nat_lt p end) 1 0 → cond
    (nat_le s p && nat_lt p t) 1 0 + n ≡ cond (nat_le s p && nat_lt p end) 1 0
counted s t end p a b n e = rw e (grind (arith, nat_tests))

end-behind : (s : ℕ) (ss : List ℕ) (end : ℕ) → Chain s ss end → s < end
end-behind s [] end h = h
end-behind s (t ∷ ts) end h = let l = end-behind t ts end h.1 in omega arith

count-chain : (s : ℕ) (ss : List ℕ) (end p : ℕ) → Chain s ss end → count_by (has_place p) (intervals (s ∷ ss) end)
    ≡ cond (nat_le s p && nat_lt p end) 1 0
count-chain s [] end p h = sum_by-cons (λ iv. cond (has_place p iv) 1 0) (s, end) [] ∙ add-zero _
count-chain s (t ∷ ts) end p h =
    sum_by-cons (λ iv. cond (has_place p iv) 1 0) (s, t) (intervals (t ∷ ts) end)
    ∙ counted s t end p h.0 (end-behind t ts end h.1) (count_by (has_place p) (intervals (t ∷ ts) end))
    (count-chain t ts end p h.1)

-- a place that they reach lies in one interval
within : (s p end : ℕ) → s ≤ p → p < end → cond {A = ℕ} (nat_le s p && nat_lt p end) 1 0 ≡ 1
within s p end a b = ap (λ t. cond {A = ℕ} (t && nat_lt p end) 1 0) (le-leb s p a) ∙ ap (λ t. cond {A = ℕ} t 1 0)
    (lt-ltb p end b)

pub one-interval : (ss : List ℕ) (end p : ℕ) → AllPairs (λ a b. a < b) ss → AllByRecursion (λ c. c < end) ss
    → IsReached ss p → p < end → count_by (has_place p) (intervals ss end) ≡ 1
one-interval [] end p r a h l = absurd h
one-interval (s ∷ ss) end p r a h l =
    let k = chained s ss end r a in
    count-chain s ss end p k ∙ within s p end (first-reaches s ss end p k h) l
