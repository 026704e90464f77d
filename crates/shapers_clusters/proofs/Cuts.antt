-- Exact cuts: where clusters never decrease, or never increase, merges leave exactly the cuts that no stretch holds.
use Rattle.std.proofs.Common.{ℕ, suc, ◌+◌, ◌-◌, ◌<◌, ◌≤◌, ◌≡◌, ◌≢◌, min, max, Bool, true, false, nat_lt, ◌&&◌, ◌⊎◌, inl, inr, List, [], ◌∷◌, length, get_or, refl, sym, ◌∙◌, ap, subst, arith}
use Rattle.std.specs.List.{AllPairs}
use Rattle.std.proofs.lemmas.List.{ext_get_or, get_or_default}
use Rattle.std.proofs.lemmas.Bool.{cases_lt, or_parts}
use Rattle.shapers_buffer.specs.declared.buffer.level.BufferClusterLevel.{BufferClusterLevel}
use Rattle.shapers_buffer.specs.Clusters.{merges}
use Rattle.shapers_clusters.specs.ClusterMerges.{joined, joined_all}
use Rattle.shapers_clusters.proofs.Spread.{Spread, joined_cases}
use Rattle.shapers_clusters.specs.Cuts.{EndWithin, held, linked, ShareCluster, IsRising, IsFalling, IsMonotone, SameBlock, ExactCuts}
use Rattle.shapers_clusters.proofs.Neighbours.{length-joined, length-joined_all, joined_all-falls, joined_all-linked, joined_all-reached, end_within_joined, share_all, left_to, right_from}

-- an order on numbers, up or down
record IsOrder (R : ℕ → ℕ → Type 0) : Type 0 where
  same : (a : ℕ) → R a a
  over : (a b c : ℕ) → R a b → R b c → R a c
  both : (a b : ℕ) → R a b → R b a → a ≡ b

upwards : IsOrder (λ a b. a ≤ b)
upwards = search arith

downwards : IsOrder (λ a b. b ≤ a)
downwards = search arith

abbrev InOrder : (ℕ → ℕ → Type 0) → List ℕ → Type 0
InOrder R cs = (p q : ℕ) → p ≤ q → q < length cs → R (get_or cs p 0) (get_or cs q 0)

in_order : (R : ℕ → ℕ → Type 0) → IsOrder R → (cs : List ℕ) → AllPairs R cs → InOrder R cs
in_order R o = search arith

-- clusters that never decrease, or never increase, from one place on to any other
pub rising_to : (cs : List ℕ) → IsRising cs → (p q : ℕ) → p ≤ q → q < length cs → get_or cs p 0 ≤ get_or cs q 0
rising_to = search arith

pub falling_to : (cs : List ℕ) → IsFalling cs → (p q : ℕ) → p ≤ q → q < length cs → get_or cs q 0 ≤ get_or cs p 0
falling_to = search arith

all_pairs : (R : ℕ → ℕ → Type 0) (cs : List ℕ) → InOrder R cs → AllPairs R cs
all_pairs R cs h i j d a b = search (arith, get_or_default cs i 0 d (omega arith), get_or_default cs j 0 d b)

sandwich : (R : ℕ → ℕ → Type 0) → IsOrder R → (cs : List ℕ) → InOrder R cs → (a b c : ℕ) → a ≤ b → b ≤ c → c < length cs
    → get_or cs a 0 ≡ get_or cs c 0 → get_or cs b 0 ≡ get_or cs a 0
sandwich R o cs h a b c x y l e =
    o.both (get_or cs b 0) (get_or cs a 0) (subst
    (λ z. R (get_or cs b 0) z) (sym e) (h b c y l)) (h a b x (omega arith))

spread-cut : (R : ℕ → ℕ → Type 0) → IsOrder R → (s e : ℕ) (cs js : List ℕ) → Spread s e cs js → s + 1 < e → InOrder R cs
    → (p : ℕ) → suc p < length cs → get_or cs p 0 ≢ get_or cs (suc p) 0 → (s < suc p → suc p < e → ⊥)
    → get_or js p 0 ≢ get_or js (suc p) 0
spread-cut R o s e cs js f h i p l ne out eq = elim (cases_lt (suc p) f.low) [
  | inl a ↦ ne (sym (f.before p (omega arith)) ∙ eq ∙ f.before (suc p) a)
  | inr a ↦ elim (cases_lt p f.low) [
    | inl b ↦
        let k : f.low - 1 ≡ p = omega arith in
        f.left_edge (omega arith) (ap (λ k. get_or cs k 0) k ∙ sym
        (sandwich R o cs i p s f.at (omega arith) f.at_from (omega arith) (sym (f.before p b) ∙ eq ∙ f.inside (suc p) a (omega arith) ∙ sym f.at_is)))
    | inr b ↦ elim (cases_lt (suc p) f.high) [
      | inl c ↦ elim (cases_lt p s) [
        | inl d ↦ ne (left_to s e cs js f p b (omega arith) ∙ sym (left_to s e cs js f (suc p) a d))
        | inr d ↦ elim (cases_lt (suc p) e) [
          | inl g ↦ out (omega arith) g
          | inr g ↦ ne (right_from s e cs js f p g (omega arith) ∙ sym (right_from s e cs js f (suc p) (omega arith) c))
        ]
      ]
      | inr c ↦ elim (cases_lt p f.high) [
        | inl d ↦
            let u = f.at_is ∙ sym (f.inside p b d) ∙ eq ∙ f.behind (suc p) c in
            let k : f.high ≡ suc p = omega arith in
            f.right_edge (omega arith) (ap (λ k. get_or cs k 0) k ∙ sym u
            ∙ sym (sandwich R o cs i f.at (e - 1) (suc p) (omega arith) (omega arith) l u))
        | inr d ↦ ne (sym (f.behind p d) ∙ eq ∙ f.behind (suc p) c)
      ]
    ]
  ]
]

joined-ordered : (R : ℕ → ℕ → Type 0) → IsOrder R → (level : BufferClusterLevel) (s e : ℕ) (cs : List ℕ) → e ≤ length cs
    → InOrder R cs → InOrder R (joined level s e cs)
joined-ordered R o level s e cs w h = joined_cases (InOrder R) level s e cs w (λ _. h) (λ js _ _ f. search arith)

joined_all-ordered : (R : ℕ → ℕ → Type 0) → IsOrder R → (level : BufferClusterLevel) (sts : List (ℕ × ℕ)) (cs : List ℕ)
    → EndWithin (length cs) sts → InOrder R cs → InOrder R (joined_all level sts cs)
joined_all-ordered R o level [] cs w h = h
joined_all-ordered R o level (st ∷ sts) cs w h =
    joined_all-ordered R o level sts (joined level st.0 st.1 cs) (search end_within_joined) (search joined-ordered)

pub not_in : (s e p : ℕ) → (nat_lt s p && nat_lt p e) ≡ false → s < p → p < e → ⊥
not_in = grind arith

joined_all-cut : (R : ℕ → ℕ → Type 0) → IsOrder R → (level : BufferClusterLevel) (sts : List (ℕ × ℕ)) (cs : List ℕ)
    → EndWithin (length cs) sts → InOrder R cs → (p : ℕ) → suc p < length cs → get_or cs p 0 ≢ get_or cs (suc p) 0
    → held sts (suc p) ≡ false → get_or (joined_all level sts cs) p 0 ≢ get_or (joined_all level sts cs) (suc p) 0
joined_all-cut R o level [] cs w h p l ne out = ne
joined_all-cut R o level (st ∷ sts) cs w h p l ne out =
    let js = joined level st.0 st.1 cs in
    joined_all-cut R o level sts js (search end_within_joined) (search joined-ordered) p (search length-joined)
    (joined_cases (λ js. get_or js p 0 ≢ get_or js (suc p) 0) level st.0 st.1 cs w.0 (λ _. ne)
    (λ js _ k f. spread-cut R o st.0 st.1 cs js f (omega arith) h p l ne (search arith)))
    (or_parts (nat_lt st.0 (suc p) && nat_lt (suc p) st.1) (held sts (suc p)) out).1

unlinked_cut : (R : ℕ → ℕ → Type 0) → IsOrder R → (level : BufferClusterLevel) (sts : List (ℕ × ℕ)) (cs : List ℕ)
    → EndWithin (length cs) sts → InOrder R cs → (p : ℕ) → 0 < p → p < length cs → linked cs sts p ≡ false
    → get_or (joined_all level sts cs) (p - 1) 0 ≢ get_or (joined_all level sts cs) p 0
unlinked_cut R = search (arith, joined_all-cut)

bool_cases : (b : Bool) → (b ≡ true) ⊎ (b ≡ false)
bool_cases true = inl refl
bool_cases false = inr refl

-- places of one block share a cluster after the merges
pub block_shares : (level : BufferClusterLevel) → merges level ≡ true → (sts : List (ℕ × ℕ)) (cs : List ℕ)
    → EndWithin (length cs) sts → (p q : ℕ) → p < length cs → q < length cs → SameBlock cs sts p q
    → ShareCluster (joined_all level sts cs) p q
block_shares = search (arith, share_all, joined_all-linked)

exact : (R : ℕ → ℕ → Type 0) → IsOrder R → (level : BufferClusterLevel) → merges level ≡ true
    → (sts : List (ℕ × ℕ)) (cs : List ℕ) → EndWithin (length cs) sts → InOrder R cs
    → ExactCuts cs sts (joined_all level sts cs)
exact R o level m sts cs w h = record {
  same_length = length-joined_all level sts cs w;
  cuts = search (arith, joined_all-linked, unlinked_cut);
  reached = λ p l. let (q, ql, qe, qs) = joined_all-reached level sts cs w p l in (
    q,
    ql,
    (λ r x y. elim (bool_cases (linked cs sts r)) [
      | inl t ↦ t
      | inr n ↦ absurd
          (unlinked_cut R o level sts cs w h r (omega arith) (omega arith) n (qs (r - 1) (omega arith) (omega arith)
          ∙ sym (qs r (omega arith) y)))
    ]),
    qe,
  );
  least = λ p q pl ql b. omega (
    arith,
    block_shares level m sts cs w p q pl ql b q (omega arith) (omega arith),
    joined_all-falls level sts cs w q,
  );
}

-- where clusters never decrease or never increase, the cuts after any merges are exact
pub exact_cuts : (level : BufferClusterLevel) → merges level ≡ true → (sts : List (ℕ × ℕ)) (cs : List ℕ)
    → EndWithin (length cs) sts → IsMonotone cs → ExactCuts cs sts (joined_all level sts cs)
exact_cuts level m sts cs w h = elim h [
  | inl up ↦ search (exact, upwards, in_order)
  | inr down ↦ search (exact, downwards, in_order)
]

-- clusters that never decrease, or never increase, still do so after any merges
pub stays_rising : (level : BufferClusterLevel) (sts : List (ℕ × ℕ)) (cs : List ℕ) → EndWithin (length cs) sts
    → IsRising cs → IsRising (joined_all level sts cs)
stays_rising = search (all_pairs, joined_all-ordered, upwards, in_order)

pub stays_falling : (level : BufferClusterLevel) (sts : List (ℕ × ℕ)) (cs : List ℕ) → EndWithin (length cs) sts
    → IsFalling cs → IsFalling (joined_all level sts cs)
stays_falling = search (all_pairs, joined_all-ordered, downwards, in_order)

equal_between : (R : ℕ → ℕ → Type 0) → IsOrder R → (level : BufferClusterLevel) (sts : List (ℕ × ℕ)) (cs : List ℕ)
    → EndWithin (length cs) sts → InOrder R cs → (p q : ℕ) → p < length cs → q < length cs
    → get_or (joined_all level sts cs) p 0 ≡ get_or (joined_all level sts cs) q 0 → SameBlock cs sts p q
equal_between R o level sts cs w h p q pl ql e r x y =
    let js = joined_all level sts cs in
    let n = length-joined_all level sts cs w in
    let i = joined_all-ordered R o level sts cs w h in
    let ends : get_or js (min p q) 0 ≡ get_or js (max p q) 0 = search arith in
    elim (bool_cases (linked cs sts r)) [
      | inl t ↦ t
      | inr cut ↦ absurd (unlinked_cut R o level sts cs w h r (omega arith) (omega arith) cut
          (sandwich R o js i (min p q) (r - 1) (max p q) (omega arith) (omega arith) (omega arith) ends
          ∙ sym (sandwich R o js i (min p q) r (max p q) (omega arith) y (omega arith) ends)))
    ]

-- where clusters never decrease or never increase, places that share one after the merges stand in one block
pub between_equal : (level : BufferClusterLevel) → merges level ≡ true → (sts : List (ℕ × ℕ)) (cs : List ℕ)
    → EndWithin (length cs) sts → IsMonotone cs → (p q : ℕ) → p < length cs → q < length cs
    → get_or (joined_all level sts cs) p 0 ≡ get_or (joined_all level sts cs) q 0 → SameBlock cs sts p q
between_equal level m sts cs w h p q pl ql e = elim h [
  | inl up ↦ search (equal_between, upwards, in_order)
  | inr down ↦ search (arith, equal_between, downwards)
]

-- exact cuts pin the clusters
pub one_exact : (cs : List ℕ) (sts : List (ℕ × ℕ)) (a b : List ℕ) → ExactCuts cs sts a → ExactCuts cs sts b → a ≡ b
one_exact cs sts a b x y = ext_get_or 0 a b (search arith) (λ p l.
    let (q, ql, qb, qe) = x.reached p (omega arith) in
    let (t, tl, tb, te) = y.reached p (omega arith) in
    search arith)
