-- Where those clusters meet of which the ones on the two sides of a border were made.
use Rattle.std.proofs.Common.{ℕ, zero, suc, ◌+◌, ◌-◌, ◌<◌, ◌≤◌, ◌≡◌, ◌≢◌, max, ◌⊎◌, List, [], ◌∷◌, ◌++◌, length, get_or, refl, sym, ap, ◌∙◌, subst, arith, inl, inr, true, false}
use Rattle.std.specs.List.{All, Contains, cons_option}
use Rattle.std.proofs.lemmas.Bool.{both_ways, cases_lt, eq-eqb, or_parts}
use Rattle.std.proofs.lemmas.List.{get_or_default, get_or_append_left, get_or-append_right, length-append}
use Rattle.std.proofs.lemmas.Option.{slice_get_past}
use Rattle.std.proofs.lemmas.List.Elements.{All-cons, All-get_or, All-nil, Contains-get_or}
use Rattle.shapers_buffer.specs.declared.buffer.level.BufferClusterLevel.{BufferClusterLevel}
use Rattle.shapers_buffer.specs.Clusters.{merges}
use Rattle.shapers_buffer.specs.Places.{pick}
use Rattle.shapers_buffer.proofs.Picks.{pick-within}
use Rattle.shapers_clusters.specs.ClusterMerges.{joined_all}
use Rattle.shapers_clusters.specs.Cuts.{EndWithin, IsFalling, IsMonotone, IsRising, held}
use Rattle.shapers_clusters.proofs.Cuts.{exact_cuts, falling_to, rising_to, stays_falling, stays_rising}
use Rattle.shapers_break_laws.proofs.ClearSteps.{stays}

-- both lists rise, or both fall
abbrev pub InOneOrder : List ℕ → List ℕ → Type 0
InOneOrder cs js = (IsRising cs × IsRising js) ⊎ (IsFalling cs × IsFalling js)

-- Before place `place` of cs the two clusters meet of which the ones at place p of js were made: the
-- greater one is the same.
record MeetsAt (cs js : List ℕ) (p : ℕ) : Type 0 where
  place : ℕ
  some : 0 < place
  within : place < length cs
  differ : get_or cs (place - 1) 0 ≢ get_or cs place 0
  greatest : max (get_or cs (place - 1) 0) (get_or cs place 0) ≡ max (get_or js (p - 1) 0) (get_or js p 0)

-- the numbers before a place pass, and the one that stands there fails
record FirstFail (P Q : ℕ → Type 0) (cs : List ℕ) : Type 0 where
  at : ℕ
  within : at ≤ length cs
  before : (i : ℕ) → i < at → P (get_or cs i 0)
  fails : at < length cs → Q (get_or cs at 0)

one_more : (P : ℕ → Type 0) (c : ℕ) (cs : List ℕ) (n : ℕ) → P c → ((i : ℕ) → i < n → P (get_or cs i 0)) → (i : ℕ)
    → i < suc n → P (get_or (c ∷ cs) i 0)
one_more P c cs n own rest zero h = own
one_more P c cs n own rest (suc i) h = rest i (omega (arith, h))

first_fail : (P Q : ℕ → Type 0) → ((c : ℕ) → P c ⊎ Q c) → (cs : List ℕ) → FirstFail P Q cs
first_fail P Q decide [] = record {
  at = 0;
  within = omega arith;
  before = λ i h. absurd (omega (arith, h));
  fails = λ h. absurd (omega (arith, h));
}
first_fail P Q decide (c ∷ cs) = elim (decide c) [
  | inl passes ↦
      let r = first_fail P Q decide cs in
      record {
        at = suc r.at;
        within = omega (arith, r.within);
        before = one_more P c cs r.at passes r.before;
        fails = λ h. r.fails (omega (arith, h));
      }
  | inr fails ↦ record {
    at = 0;
    within = omega arith;
    before = λ i h. absurd (omega (arith, h));
    fails = λ h. fails;
  }
]

-- where a number that the other list contains stands in it
old_at : (cs js : List ℕ) → All (Contains cs) js → (i : ℕ) → i < length js → (k : ℕ) × (k < length cs)
    × (get_or cs k 0 ≡ get_or js i 0)
old_at cs js none i il =
    let found = All-get_or (Contains cs) js i 0 il none in (
      found.0,
      found.1,
      get_or_default cs found.0 0 (get_or js i 0) found.1 ∙ found.2,
    )

less_of : {a b : ℕ} → a ≤ b → a ≢ b → a < b
less_of {a} {b} most differ = elim (cases_lt a b) [
  | inl less ↦ less
  | inr more ↦ absurd (differ (omega (arith, most, more)))
]

-- the border of halves whose clusters pass in front and fail behind
border_at : (P Q : ℕ → Type 0) → ((c : ℕ) → P c → Q c → ⊥) → (cs js : List ℕ) (q p : ℕ)
    → ((i : ℕ) → i < q → P (get_or cs i 0)) → ((i : ℕ) → q ≤ i → i < length cs → Q (get_or cs i 0)) → 0 < p
    → p < length js → P (get_or js (p - 1) 0) → Q (get_or js p 0) → (fs bs xs ys : List ℕ) → cs ≡ fs ++ bs
    → length fs ≡ q → js ≡ xs ++ ys → All (Contains fs) xs → All (Contains bs) ys → length xs ≡ p
border_at P Q both cs js q p front behind z l passes fails fs bs xs ys cut long made first second =
    let all = ap length made ∙ length-append xs ys in
    elim (cases_lt p (length xs)) [
      | inl inside ↦
          let (i, il, is) = old_at fs xs first p inside in
          let here : get_or cs i 0 ≡ get_or js p 0 =
          ap (λ zs. get_or zs i 0) cut
          ∙ get_or_append_left fs bs 0 i il
          ∙ is
          ∙ sym (ap (λ zs. get_or zs p 0) made ∙ get_or_append_left xs ys 0 p inside) in
          absurd (both (get_or js p 0) (subst P here (front i (omega (arith, il, long)))) fails)
      | inr past ↦ elim (cases_lt (length xs) p) [
        | inl short ↦
            let n = length xs in
            let k = p - 1 - n in
            let (i, il, is) = old_at bs ys second k (omega (arith, all, l, short)) in
            let here : get_or cs (q + i) 0 ≡ get_or js (p - 1) 0 =
            ap (λ zs. get_or zs (q + i) 0) cut
            ∙ get_or-append_right fs bs q (q + i) 0 long (omega arith)
            ∙ ap (λ j. get_or bs j 0) (omega arith)
            ∙ is
            ∙ sym (ap (λ zs. get_or zs (p - 1) 0) made
            ∙ get_or-append_right xs ys n (p - 1) 0 refl (omega (arith, short))) in
            absurd (both (get_or js (p - 1) 0) passes (subst Q here (behind (q + i) (omega arith)
            (omega (arith, ap length cut ∙ length-append fs bs, long, il)))))
        | inr same ↦ omega (arith, past, same)
      ]
    ]

-- so of halves cut where two clusters meet of which the greater one is the same
border_by : (cs js : List ℕ) → InOneOrder cs js → (q p : ℕ) → 0 < q → q < length cs
    → get_or cs (q - 1) 0 ≢ get_or cs q 0 → 0 < p → p < length js → get_or js (p - 1) 0 ≢ get_or js p 0
    → max (get_or cs (q - 1) 0) (get_or cs q 0) ≡ max (get_or js (p - 1) 0) (get_or js p 0)
    → (fs bs xs ys : List ℕ) → cs ≡ fs ++ bs → length fs ≡ q → js ≡ xs ++ ys → All (Contains fs) xs
    → All (Contains bs) ys → length xs ≡ p
border_by cs js order q p some within apart z l differ greatest fs bs xs ys cut long made first second = elim order [
  | inl up ↦
      let step = less_of (rising_to cs up.0 (q - 1) q (omega arith) within) apart in
      let less = less_of (rising_to js up.1 (p - 1) p (omega arith) l) differ in
      border_at (λ x. x < get_or cs q 0) (λ x. get_or cs q 0 ≤ x) (λ x a b. omega (arith, a, b)) cs js q p
      (λ i h. let m = rising_to cs up.0 i (q - 1) (omega (arith, h)) (omega (arith, within)) in omega (arith, m, step))
      (λ i low high. rising_to cs up.0 q i low high) z l (omega (arith, step, less, greatest))
      (omega (arith, step, less, greatest)) fs bs xs ys cut long made first second
  | inr down ↦
      let step = less_of (falling_to cs down.0 (q - 1) q (omega arith) within) (λ e. apart (sym e)) in
      let less = less_of (falling_to js down.1 (p - 1) p (omega arith) l) (λ e. differ (sym e)) in
      border_at (λ x. get_or cs (q - 1) 0 ≤ x) (λ x. x < get_or cs (q - 1) 0) (λ x a b. omega (arith, a, b)) cs js q p
      (λ i h. falling_to cs down.0 i (q - 1) (omega (arith, h)) (omega (arith, within)))
      (λ i low high. let m = falling_to cs down.0 q i low high in omega (arith, m, step)) z l
      (omega (arith, step, less, greatest)) (omega (arith, step, less, greatest)) fs bs xs ys cut long made first second
]

meets_up : (cs js : List ℕ) → IsRising cs → All (Contains cs) js → (p : ℕ) → 0 < p → p < length js
    → get_or js (p - 1) 0 < get_or js p 0 → MeetsAt cs js p
meets_up cs js up none p z l less =
    let c = get_or js p 0 in
    let (k, kl, is) = old_at cs js none p l in
    let (f, fl, was) = old_at cs js none (p - 1) (omega (arith, l)) in
    let s = first_fail (λ x. x < c) (λ x. c ≤ x) (λ x. cases_lt x c) cs in
    let q = s.at in
    let reach : q ≤ k = elim (cases_lt k q) [
      | inl a ↦ let b = s.before k a in absurd (omega (arith, is, b))
      | inr b ↦ b
    ] in
    let within : q < length cs = omega (arith, reach, kl) in
    let least : c ≤ get_or cs q 0 = s.fails within in
    let most = rising_to cs up q k reach kl in
    let some : 0 < q = elim (cases_lt f q) [
      | inl a ↦ omega (arith, a)
      | inr b ↦ let m = rising_to cs up q f b fl in absurd (omega (arith, least, m, was, less))
    ] in
    let below = s.before (q - 1) (omega (arith, some)) in
    record {
      place = q;
      some = some;
      within = within;
      differ = λ e. absurd (omega (arith, e, below, least));
      greatest = omega (arith, below, least, most, is, less);
    }

meets_down : (cs js : List ℕ) → IsFalling cs → All (Contains cs) js → (p : ℕ) → 0 < p → p < length js
    → get_or js p 0 < get_or js (p - 1) 0 → MeetsAt cs js p
meets_down cs js down none p z l less =
    let c = get_or js (p - 1) 0 in
    let (k, kl, is) = old_at cs js none (p - 1) (omega (arith, l)) in
    let (f, fl, was) = old_at cs js none p l in
    let s = first_fail (λ x. c ≤ x) (λ x. x < c) (λ x. elim (cases_lt x c) [ inl a ↦ inr a | inr b ↦ inl b ]) cs in
    let q = s.at in
    let reach : q ≤ f = elim (cases_lt f q) [
      | inl a ↦ let b = s.before f a in absurd (omega (arith, was, b, less))
      | inr b ↦ b
    ] in
    let within : q < length cs = omega (arith, reach, fl) in
    let most : get_or cs q 0 < c = s.fails within in
    let inside : k < q = elim (cases_lt k q) [
      | inl a ↦ a
      | inr b ↦ let m = falling_to cs down q k b kl in absurd (omega (arith, m, is, most))
    ] in
    let some : 0 < q = omega (arith, inside) in
    let above : c ≤ get_or cs (q - 1) 0 = s.before (q - 1) (omega (arith, some)) in
    let least = falling_to cs down k (q - 1) (omega (arith, inside)) (omega (arith, within)) in
    record {
      place = q;
      some = some;
      within = within;
      differ = λ e. absurd (omega (arith, e, above, most));
      greatest = omega (arith, above, least, most, is, less);
    }

meets_at : (cs js : List ℕ) → InOneOrder cs js → All (Contains cs) js → (p : ℕ) → 0 < p → p < length js
    → get_or js (p - 1) 0 ≢ get_or js p 0 → MeetsAt cs js p
meets_at cs js order none p z l differ = elim order [
  | inl up ↦ meets_up cs js up.0 none p z l (less_of (rising_to js up.1 (p - 1) p (omega arith) l) differ)
  | inr down ↦ meets_down cs js down.0 none p z l
      (less_of (falling_to js down.1 (p - 1) p (omega arith) l) (λ e. differ (sym e)))
]

-- Before place `place` of cs no stretch holds both sides and the two clusters meet of which, once the
-- stretches were merged, the ones at place p of js were made: the greater one is the same, and where
-- js is made of two halves, each of the clusters of one half of cs, cut there, p is the border of
-- these.
pub record UnheldAt (cs : List ℕ) (sts : List (ℕ × ℕ)) (js : List ℕ) (p : ℕ) : Type 0 where
  pub place : ℕ
  pub some : 0 < place
  pub within : place < length cs
  pub differ : get_or cs (place - 1) 0 ≢ get_or cs place 0
  pub free : held sts place ≡ false
  pub greatest : max (get_or cs (place - 1) 0) (get_or cs place 0) ≡ max (get_or js (p - 1) 0) (get_or js p 0)
  pub border : (fs bs xs ys : List ℕ) → cs ≡ fs ++ bs → length fs ≡ place → js ≡ xs ++ ys → All (Contains fs) xs
      → All (Contains bs) ys → length xs ≡ p

-- what is picked of a list it contains
pub contains_picked : (ps cs : List ℕ) → All (Contains cs) (pick ps cs)
contains_picked [] cs = All-nil (Contains cs)
contains_picked (p ∷ ps) cs = elim (cases_lt p (length cs)) [
  | inl l ↦ subst (All (Contains cs)) (sym (pick-within 0 p ps cs l))
      (All-cons (Contains cs) (get_or cs p 0) (pick ps cs) (Contains-get_or cs p 0 l) (contains_picked ps cs))
  | inr l ↦ subst (All (Contains cs)) (sym (ap (λ o. cons_option o (pick ps cs)) (slice_get_past cs p l)))
      (contains_picked ps cs)
]

pub unheld_at : (level : BufferClusterLevel) → merges level ≡ true → (sts : List (ℕ × ℕ)) (cs js : List ℕ)
    → EndWithin (length cs) sts → InOneOrder cs js → All (Contains (joined_all level sts cs)) js → (p : ℕ) → 0 < p
    → p < length js → get_or js (p - 1) 0 ≢ get_or js p 0 → UnheldAt cs sts js p
unheld_at level m sts cs js ends order made p z l differ =
    let M = joined_all level sts cs in
    let mono : IsMonotone cs = elim order [ inl up ↦ inl up.0 | inr down ↦ inr down.0 ] in
    let merged : InOneOrder M js = elim order [
      | inl up ↦ inl (stays_rising level sts cs ends up.0, up.1)
      | inr down ↦ inr (stays_falling level sts cs ends down.0, down.1)
    ] in
    let x = exact_cuts level m sts cs ends mono in
    let at = meets_at M js merged made p z l differ in
    let within : at.place < length cs = omega (arith, at.within, x.same_length) in
    let parts = or_parts _ _ ((x.cuts at.place at.some within).0 at.differ) in
    let apart : get_or cs (at.place - 1) 0 ≢ get_or cs at.place 0 = λ e. both_ways _ parts.0 (eq-eqb _ _ e) in
    let greatest = sym (stays cs sts M x mono at.place at.some within at.differ).greatest ∙ at.greatest in
    record {
      place = at.place;
      some = at.some;
      within = within;
      differ = apart;
      free = parts.1;
      greatest = greatest;
      border = border_by cs js order at.place p at.some within apart z l differ greatest;
    }
