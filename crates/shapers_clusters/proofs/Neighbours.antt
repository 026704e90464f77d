-- What merges do to any clusters: none rises, neighbours that share one still do, and so do the places of a stretch.
use Rattle.std.proofs.Common.{ℕ, zero, suc, ◌+◌, ◌-◌, ◌<◌, ◌≤◌, ◌≡◌, min, max, Bool, true, false, ◌||◌, nat_lt, ◌&&◌, ◌⊎◌, inl, inr, List, [], ◌∷◌, length, get_or, refl, ◌∙◌, arith}
use Rattle.std.proofs.lemmas.Bool.{cases_lt, ltb-true}
use Rattle.shapers_buffer.specs.declared.buffer.level.BufferClusterLevel.{BufferClusterLevel}
use Rattle.shapers_buffer.specs.Clusters.{merges}
use Rattle.shapers_clusters.specs.ClusterMerges.{joined, joined_all}
use Rattle.shapers_clusters.proofs.Spread.{Spread, joined_cases}
use Rattle.shapers_clusters.specs.Cuts.{EndWithin, held, linked, ShareCluster}

pub length-joined : (level : BufferClusterLevel) (s e : ℕ) (cs : List ℕ) → e ≤ length cs → length (joined level s e cs)
    ≡ length cs
length-joined level s e cs w =
    joined_cases (λ js. length js ≡ length cs) level s e cs w (λ _. refl) (λ js _ _ f. f.same_length)

-- all places of a merged stretch share one cluster
pub joined-shares : (level : BufferClusterLevel) (s e : ℕ) (cs : List ℕ) → e ≤ length cs → merges level ≡ true
    → (p q : ℕ) → s ≤ p → p < e → s ≤ q → q < e → get_or (joined level s e cs) p 0 ≡ get_or (joined level s e cs) q 0
joined-shares level s e cs w a p q sp pe sq qe = joined_cases (λ js. get_or js p 0 ≡ get_or js q 0) level s e cs w
    (λ no. search arith) (λ js _ h f. omega (arith, f.inside p))

pub left_to : (s e : ℕ) (cs js : List ℕ) (f : Spread s e cs js) (p : ℕ) → f.low ≤ p → p ≤ s
    → get_or cs p 0 ≡ get_or cs s 0
left_to s e cs js f = search arith

pub right_from : (s e : ℕ) (cs js : List ℕ) (f : Spread s e cs js) (p : ℕ) → e ≤ suc p → p < f.high
    → get_or cs p 0 ≡ get_or cs (e - 1) 0
right_from s e cs js f = search arith

-- neighbours that share a cluster still do
pub joined-neighbours : (level : BufferClusterLevel) (s e : ℕ) (cs : List ℕ) → e ≤ length cs → (p : ℕ)
    → suc p < length cs → get_or cs p 0 ≡ get_or cs (suc p) 0 → get_or (joined level s e cs) p 0
    ≡ get_or (joined level s e cs) (suc p) 0
joined-neighbours level s e cs w p l q =
    joined_cases (λ js. get_or js p 0 ≡ get_or js (suc p) 0) level s e cs w (λ _. q) (λ js _ h f. search arith)

-- each cluster is the old one of some place, and all places in between share it
pub joined-reached : (level : BufferClusterLevel) (s e : ℕ) (cs : List ℕ) → e ≤ length cs → (p : ℕ) → p < length cs
    → (q : ℕ) × (q < length cs) × (get_or (joined level s e cs) p 0 ≡ get_or cs q 0)
    × ShareCluster (joined level s e cs) p q
joined-reached level s e cs w p l =
    joined_cases (λ js. (q : ℕ) × (q < length cs) × (get_or js p 0 ≡ get_or cs q 0) × ShareCluster js p q) level s e cs
    w (λ _. (p, l, refl, search arith)) (λ js _ h f.
    elim (cases_lt p f.low) [
      | inl a ↦ search (arith, f.before p a)
      | inr a ↦ elim (cases_lt p f.high) [
        | inl b ↦
            search arith
        | inr b ↦ search (arith, f.behind p b)
      ]
    ])

-- after a first merge the stretches still end within the list
pub end_within_joined : (level : BufferClusterLevel) (s e : ℕ) (cs : List ℕ) (sts : List (ℕ × ℕ)) → e ≤ length cs
    → EndWithin (length cs) sts → EndWithin (length (joined level s e cs)) sts
end_within_joined = search length-joined

pub length-joined_all : (level : BufferClusterLevel) (sts : List (ℕ × ℕ)) (cs : List ℕ) → EndWithin (length cs) sts
    → length (joined_all level sts cs) ≡ length cs
length-joined_all level [] cs h = refl
length-joined_all level (st ∷ sts) cs h = search (length-joined, length-joined_all level sts (joined level st.0 st.1 cs) (end_within_joined level st.0 st.1 cs sts h.0 h.1))

pub joined_all-falls : (level : BufferClusterLevel) (sts : List (ℕ × ℕ)) (cs : List ℕ) → EndWithin (length cs) sts
    → (p : ℕ) → get_or (joined_all level sts cs) p 0 ≤ get_or cs p 0
joined_all-falls level [] cs h p = omega arith
joined_all-falls level (st ∷ sts) cs h p =
    let a = joined_all-falls level sts (joined level st.0 st.1 cs) (search end_within_joined) p in
    let b =
    joined_cases (λ js. get_or js p 0 ≤ get_or cs p 0) level st.0 st.1 cs h.0 (λ _. omega arith) (λ js _ h f.
    search arith) in omega arith

pub joined_all-neighbours : (level : BufferClusterLevel) (sts : List (ℕ × ℕ)) (cs : List ℕ) → EndWithin (length cs) sts
    → (p : ℕ) → suc p < length cs → get_or cs p 0 ≡ get_or cs (suc p) 0 → get_or (joined_all level sts cs) p 0
    ≡ get_or (joined_all level sts cs) (suc p) 0
joined_all-neighbours level [] cs h p l q = q
joined_all-neighbours level (st ∷ sts) cs h p l q =
    joined_all-neighbours level sts (joined level st.0 st.1 cs) (search end_within_joined) p
    (search length-joined) (search joined-neighbours)

or_cases : (a b : Bool) → (a || b) ≡ true → (a ≡ true) ⊎ (b ≡ true)
or_cases true b h = inl refl
or_cases false b h = inr h

and_both : (a b : Bool) → (a && b) ≡ true → (a ≡ true) × (b ≡ true)
and_both true b h = (refl, h)
and_both false b h = (cc, cc)

pub in_stretch : (s e p : ℕ) (rest : Bool) → (nat_lt s p && nat_lt p e || rest) ≡ true → ((s < p) × (p < e))
    ⊎ (rest ≡ true)
in_stretch s e p rest h = elim (or_cases (nat_lt s p && nat_lt p e) rest h) [
  | inl i ↦ let b = and_both (nat_lt s p) (nat_lt p e) i in inl (ltb-true s p b.0, ltb-true p e b.1)
  | inr r ↦ inr r
]

-- neighbours that some merged stretch holds share a cluster
joined_all-held : (level : BufferClusterLevel) → merges level ≡ true → (sts : List (ℕ × ℕ)) (cs : List ℕ)
    → EndWithin (length cs) sts → (p : ℕ) → suc p < length cs → held sts (suc p) ≡ true
    → get_or (joined_all level sts cs) p 0 ≡ get_or (joined_all level sts cs) (suc p) 0
joined_all-held level m [] cs h p l q = cc
joined_all-held level m (st ∷ sts) cs h p l q =
    let js = joined level st.0 st.1 cs in
    let w = end_within_joined level st.0 st.1 cs sts h.0 h.1 in
    let n : suc p < length js = search length-joined in
    elim (in_stretch st.0 st.1 (suc p) (held sts (suc p)) q) [
      | inl i ↦ joined_all-neighbours level sts js w p n
          (joined-shares level st.0 st.1 cs h.0 m p (suc p) (omega arith) (omega arith) (omega arith) (omega arith))
      | inr r ↦ joined_all-held level m sts js w p n r
    ]

-- linked places share a cluster
pub joined_all-linked : (level : BufferClusterLevel) → merges level ≡ true → (sts : List (ℕ × ℕ)) (cs : List ℕ)
    → EndWithin (length cs) sts → (p : ℕ) → 0 < p → p < length cs → linked cs sts p ≡ true
    → get_or (joined_all level sts cs) (p - 1) 0 ≡ get_or (joined_all level sts cs) p 0
joined_all-linked = search (arith, joined_all-neighbours, joined_all-held)

share_upto : (cs : List ℕ) (p n : ℕ) → ((r : ℕ) → p < r → r ≤ p + n → get_or cs (r - 1) 0 ≡ get_or cs r 0) → (k : ℕ)
    → k ≤ n → get_or cs (p + k) 0 ≡ get_or cs p 0
share_upto cs p n h zero l = search arith
share_upto cs p n h (suc k) l = search (arith, share_upto cs p n h k (omega arith))

-- neighbour by neighbour, all share one cluster
pub share_all : (cs : List ℕ) (p q : ℕ) → ((r : ℕ) → min p q < r → r ≤ max p q → get_or cs (r - 1) 0 ≡ get_or cs r 0)
    → ShareCluster cs p q
share_all cs p q h r a b =
    let up : (k : ℕ) → min p q ≤ k → k ≤ max p q → get_or cs k 0 ≡ get_or cs (min p q) 0 = λ k x y.
    search (
      arith,
      share_upto cs (min p q) (max p q - min p q) (λ r x y. h r x (omega arith)) (k - min p q) (omega arith),
    ) in
    search arith

share_over : (cs : List ℕ) (p q t : ℕ) → ShareCluster cs p q → ShareCluster cs q t → ShareCluster cs p t
share_over = search arith

-- places that shared a cluster with all in between still do
pub joined_all-share : (level : BufferClusterLevel) (sts : List (ℕ × ℕ)) (cs : List ℕ) → EndWithin (length cs) sts
    → (p q : ℕ) → p < length cs → q < length cs → ShareCluster cs p q → ShareCluster (joined_all level sts cs) p q
joined_all-share = search (arith, share_all, joined_all-neighbours)

-- each cluster is the old one of some place, and all places in between share it
pub joined_all-reached : (level : BufferClusterLevel) (sts : List (ℕ × ℕ)) (cs : List ℕ) → EndWithin (length cs) sts
    → (p : ℕ) → p < length cs → (q : ℕ) × (q < length cs) × (get_or (joined_all level sts cs) p 0 ≡ get_or cs q 0)
    × ShareCluster (joined_all level sts cs) p q
joined_all-reached level [] cs h p l = (p, l, refl, search arith)
joined_all-reached level (st ∷ sts) cs h p l =
    let js = joined level st.0 st.1 cs in
    let n = length-joined level st.0 st.1 cs h.0 in
    let (q, ql, qe, qs) = joined_all-reached level sts js
    (end_within_joined level st.0 st.1 cs sts h.0 h.1) p (omega arith) in
    let (t, tl, te, ts) = joined-reached level st.0 st.1 cs h.0 q (omega arith) in (
      t,
      tl,
      qe ∙ te,
      share_over (joined_all level sts js) p q t qs (search (arith, joined_all-share)),
    )
