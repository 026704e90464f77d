-- Exact cuts where each cluster's places stand together, in whatever order: so where all clusters are different.
use Rattle.std.proofs.Common.{ℕ, suc, ◌+◌, ◌-◌, ◌<◌, ◌≤◌, ◌≡◌, ◌≢◌, true, false, nat_lt, ◌&&◌, inl, inr, List, [], ◌∷◌, length, get_or, sym, ◌∙◌, arith}
use Rattle.std.proofs.lemmas.Bool.{cases_Bool, cases_lt, or_parts}
use Rattle.shapers_buffer.specs.declared.buffer.level.BufferClusterLevel.{BufferClusterLevel}
use Rattle.shapers_buffer.specs.Clusters.{merges}
use Rattle.shapers_clusters.specs.Cuts.{AllDifferent, EndWithin, ExactCuts, held, linked}
use Rattle.shapers_clusters.specs.ClusterMerges.{joined, joined_all}
use Rattle.shapers_clusters.proofs.Cuts.{block_shares}
use Rattle.shapers_clusters.proofs.Neighbours.{end_within_joined, joined_all-falls, joined_all-linked, joined_all-reached, left_to, length-joined, length-joined_all, right_from}
use Rattle.shapers_clusters.proofs.Spread.{Spread, joined_cases}

-- places of one cluster have no other cluster between them
abbrev pub Gathered : List ℕ → Type 0
Gathered cs = (a b c : ℕ) → a ≤ b → b ≤ c → c < length cs → get_or cs a 0 ≡ get_or cs c 0
    → get_or cs b 0 ≡ get_or cs a 0

pub different_gathered : (cs : List ℕ) → AllDifferent cs → Gathered cs
different_gathered = search arith

-- a stretch that merges leaves them so
no_left : (s e : ℕ) (cs js : List ℕ) (f : Spread s e cs js) → Gathered cs → (a c : ℕ) → a < f.low → s ≤ c
    → c < length cs → get_or cs a 0 ≡ get_or cs c 0 → ⊥
no_left s e cs js f g a c l h k same = search (f.left_edge (omega arith)
    (g a (f.low - 1) c (omega arith) (omega arith) k same ∙ sym (g a s c (omega arith) h k same)))

no_right : (s e : ℕ) (cs js : List ℕ) (f : Spread s e cs js) → Gathered cs → (a c : ℕ) → a < e → f.high ≤ c
    → c < length cs → get_or cs a 0 ≡ get_or cs c 0 → ⊥
no_right s e cs js f g a c l h k same = search (f.right_edge (omega arith)
    (g a f.high c (omega arith) h k same ∙ sym (g a (e - 1) c (omega arith) (omega arith) k same)))

spread_gathered : (s e : ℕ) (cs js : List ℕ) → Spread s e cs js → Gathered cs → Gathered js
spread_gathered s e cs js f g a b c x y l same = elim (cases_lt a f.low) [
  | inl al ↦ elim (cases_lt c f.low) [
    | inl cl ↦ f.before b (omega arith) ∙ g a b c x y (omega arith) (sym (f.before a al) ∙ same ∙ f.before c cl)
        ∙ sym (f.before a al)
    | inr cl ↦ elim (cases_lt c f.high) [
      | inl ch ↦ absurd (no_left s e cs js f g a f.at al f.at_from (omega arith) (sym (f.before a al) ∙ same
          ∙ f.inside c cl ch ∙ sym f.at_is))
      | inr ch ↦ absurd (no_left s e cs js f g a c al (omega arith) (omega arith) (sym (f.before a al) ∙ same
          ∙ f.behind c ch))
    ]
  ]
  | inr al ↦ elim (cases_lt a f.high) [
    | inl ah ↦ elim (cases_lt c f.high) [
      | inl ch ↦ f.inside b (omega arith) (omega arith) ∙ sym (f.inside a al ah)
      | inr ch ↦ absurd (no_right s e cs js f g f.at c
          f.at_to ch (omega arith) (f.at_is ∙ sym (f.inside a al ah) ∙ same ∙ f.behind c ch))
    ]
    | inr ah ↦ f.behind b (omega arith)
        ∙ g a b c x y (omega arith) (sym (f.behind a ah) ∙ same ∙ f.behind c (omega arith)) ∙ sym (f.behind a ah)
  ]
]

-- neighbours of two clusters that it doesn't hold keep two
spread_cut : (s e : ℕ) (cs js : List ℕ) → Spread s e cs js → s + 1 < e → Gathered cs → (p : ℕ) → suc p < length cs
    → get_or cs p 0 ≢ get_or cs (suc p) 0 → (s < suc p → suc p < e → ⊥) → get_or js p 0 ≢ get_or js (suc p) 0
spread_cut s e cs js f h g p l ne out eq = elim (cases_lt (suc p) f.low) [
  | inl a ↦ ne (sym (f.before p (omega arith)) ∙ eq ∙ f.before (suc p) a)
  | inr a ↦ elim (cases_lt p f.low) [
    | inl b ↦ no_left s e cs js f g p f.at b f.at_from (search arith) (search arith)
    | inr b ↦ elim (cases_lt (suc p) f.high) [
      | inl c ↦ elim (cases_lt p s) [
        | inl d ↦ ne (left_to s e cs js f p b (omega arith) ∙ sym (left_to s e cs js f (suc p) a d))
        | inr d ↦ elim (cases_lt (suc p) e) [
          | inl k ↦ out (omega arith) k
          | inr k ↦ ne (right_from s e cs js f p k (omega arith) ∙ sym (right_from s e cs js f (suc p) (omega arith) c))
        ]
      ]
      | inr c ↦ elim (cases_lt p f.high) [
        | inl d ↦ no_right s e cs js f g f.at (suc p) f.at_to c l (search arith)
        | inr d ↦ ne (sym (f.behind p d) ∙ eq ∙ f.behind (suc p) c)
      ]
    ]
  ]
]

joined_gathered : (level : BufferClusterLevel) (s e : ℕ) (cs : List ℕ) → e ≤ length cs → Gathered cs
    → Gathered (joined level s e cs)
joined_gathered level s e cs w g =
    joined_cases Gathered level s e cs w (λ _. g) (λ js _ _ f. spread_gathered s e cs js f g)

joined_all_cut : (level : BufferClusterLevel) (sts : List (ℕ × ℕ)) (cs : List ℕ) → EndWithin (length cs) sts
    → Gathered cs → (p : ℕ) → suc p < length cs → get_or cs p 0 ≢ get_or cs (suc p) 0 → held sts (suc p) ≡ false
    → get_or (joined_all level sts cs) p 0 ≢ get_or (joined_all level sts cs) (suc p) 0
joined_all_cut level [] cs w g p l ne out = ne
joined_all_cut level (st ∷ sts) cs w g p l ne out =
    let js = joined level st.0 st.1 cs in
    joined_all_cut level sts js (search end_within_joined) (search joined_gathered) p (search length-joined)
    (joined_cases (λ js. get_or js p 0 ≢ get_or js (suc p) 0) level st.0 st.1 cs w.0 (λ _. ne)
    (λ js _ k f. spread_cut st.0 st.1 cs js f (omega arith) g p l ne (search arith)))
    (or_parts (nat_lt st.0 (suc p) && nat_lt (suc p) st.1) (held sts (suc p)) out).1

unlinked_cut : (level : BufferClusterLevel) (sts : List (ℕ × ℕ)) (cs : List ℕ) → EndWithin (length cs) sts → Gathered cs
    → (p : ℕ) → 0 < p → p < length cs → linked cs sts p ≡ false
    → get_or (joined_all level sts cs) (p - 1) 0 ≢ get_or (joined_all level sts cs) p 0
unlinked_cut = search (arith, joined_all_cut)

pub exact_gathered : (level : BufferClusterLevel) → merges level ≡ true → (sts : List (ℕ × ℕ)) (cs : List ℕ)
    → EndWithin (length cs) sts → Gathered cs → ExactCuts cs sts (joined_all level sts cs)
exact_gathered level m sts cs w g = record {
  same_length = length-joined_all level sts cs w;
  cuts = search (arith, joined_all-linked, unlinked_cut);
  reached = λ p l. let (q, ql, qe, qs) = joined_all-reached level sts cs w p l in (
    q,
    ql,
    (λ r x y. elim (cases_Bool (linked cs sts r)) [
      | inl t ↦ t
      | inr n ↦ absurd (unlinked_cut level sts cs w g r (omega arith) (omega arith) n (search arith))
    ]),
    qe,
  );
  least = λ p q pl ql b. omega (
    arith,
    block_shares level m sts cs w p q pl ql b q (omega arith) (omega arith),
    joined_all-falls level sts cs w q,
  );
}
