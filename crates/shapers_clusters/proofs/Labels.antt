-- The label law: glyphs come to share a cluster only through stretches that merge.
use Rattle.std.proofs.Common.{ℕ, ◌+◌, ◌-◌, ◌<◌, ◌≤◌, ◌≡◌, ◌⊎◌, inl, inr, List, [], ◌∷◌, length, get_or, refl, sym, ◌∙◌, subst, arith}
use Rattle.std.specs.List.{AllByRecursion, range_with_len}
use Rattle.std.proofs.lemmas.Bool.{cases_lt}
use Rattle.shapers_buffer.specs.declared.buffer.level.BufferClusterLevel.{BufferClusterLevel}
use Rattle.shapers_clusters.specs.ClusterMerges.{joined, joined_all}
use Rattle.shapers_clusters.proofs.Spread.{Spread, joined_cases}
use Rattle.shapers_clusters.specs.Cuts.{EndWithin, OneAlong}
use Rattle.shapers_clusters.proofs.Neighbours.{end_within_joined}
use Rattle.shapers_buffer.specs.Places.{pick}
use Rattle.shapers_clusters.specs.Steps.{Step, joined_step, joined_steps, moved_on, old_places, FitSteps}
use Rattle.shapers_clusters.proofs.Picks.{length-pick, get_or-pick, pick-all, pick-pick, within_picked, within_range, within_at}
use Rattle.shapers_clusters.proofs.Moves.{stepped}
use Rattle.shapers_clusters.specs.Labels.{IsLabelled, OfOldPlaces, OneLabelEach}

-- all places that a merge reaches have the label of the stretch
spread-label : (s e : ℕ) (cs js ls : List ℕ) (f : Spread s e cs js) → s + 1 < e → IsLabelled cs ls → OneAlong ls (s, e)
    → (p : ℕ) → f.low ≤ p → p < f.high → get_or ls p 0 ≡ get_or ls s 0
spread-label s e cs js ls f h i o p a b = elim (cases_lt p s) [
  | inl c ↦ i.agree p s (omega arith) (omega arith) (f.left p a c)
  | inr c ↦ elim (cases_lt p e) [
    | inl d ↦ o p s c d (omega arith) (omega arith)
    | inr d ↦ i.agree p (e - 1) (omega arith) (search arith) (f.right p d b)
        ∙ o (e - 1) s (omega arith) (omega arith) (omega arith) (omega arith)
  ]
]

-- a place of the merged cluster has that label, whether the merge reached it or not
spread-label_of : (s e : ℕ) (cs js ls : List ℕ) (f : Spread s e cs js) → s + 1 < e → IsLabelled cs ls
    → OneAlong ls (s, e) → (p : ℕ) → p < length cs → get_or cs p 0 ≡ f.m → get_or ls p 0 ≡ get_or ls s 0
spread-label_of s e cs js ls f h i o p l c =
    i.agree p f.at l (search arith) (c ∙ sym f.at_is) ∙ o f.at s f.at_from f.at_to (omega arith) (omega arith)

-- a place either was reached or keeps its cluster
label_reach : (s e : ℕ) (cs js : List ℕ) (f : Spread s e cs js) (p : ℕ)
    → ((f.low ≤ p) × (p < f.high) × (get_or js p 0 ≡ f.m)) ⊎ (get_or js p 0 ≡ get_or cs p 0)
label_reach s e cs js f p = elim (cases_lt p f.low) [
  | inl a ↦ inr (f.before p a)
  | inr a ↦ elim (cases_lt p f.high) [ inl b ↦ inl (a, b, f.inside p a b) | inr b ↦ inr (f.behind p b) ]
]

spread-labelled : (s e : ℕ) (cs js ls : List ℕ) → Spread s e cs js → s + 1 < e → IsLabelled cs ls → OneAlong ls (s, e)
    → IsLabelled js ls
spread-labelled s e cs js ls f h i o = record {
  as_many = search arith;
  agree = λ p q pl ql eq.
      elim (label_reach s e cs js f p) [
        | inl x ↦ elim (label_reach s e cs js f q) [
          | inl y ↦ spread-label s e cs js ls f h i o p x.0 x.1 ∙ sym (spread-label s e cs js ls f h i o q y.0 y.1)
          | inr y ↦ spread-label s e cs js ls f h i o p x.0 x.1
              ∙ sym (spread-label_of s e cs js ls f h i o q (omega arith) (sym y ∙ sym eq ∙ x.2))
        ]
        | inr x ↦ elim (label_reach s e cs js f q) [
          | inl y ↦ spread-label_of s e cs js ls f h i o p (omega arith) (sym x ∙ eq ∙ y.2)
              ∙ sym (spread-label s e cs js ls f h i o q y.0 y.1)
          | inr y ↦ i.agree p q (omega arith) (omega arith) (sym x ∙ eq ∙ y)
        ]
      ];
}

pub joined-labelled : (level : BufferClusterLevel) (s e : ℕ) (cs ls : List ℕ) → e ≤ length cs → IsLabelled cs ls
    → OneAlong ls (s, e) → IsLabelled (joined level s e cs) ls
joined-labelled level s e cs ls w i o =
    joined_cases (λ js. IsLabelled js ls) level s e cs w (λ _. i)
    (λ js _ h f. spread-labelled s e cs js ls f (omega arith) i o)

-- a place that a merge reached has the cluster and the label of the stretch's least place
spread-of_old : (s e : ℕ) (ds ks cs js ls : List ℕ) → Spread s e cs js → s + 1 < e → IsLabelled cs ls
    → OneAlong ls (s, e) → OfOldPlaces ds ks cs ls → OfOldPlaces ds ks js ls
spread-of_old s e ds ks cs js ls f h i o old p l = elim (label_reach s e cs js f p) [
  | inl x ↦ (
      let (q, ql, c, m) = old f.at (omega arith) in
      search (
        arith,
        x.2,
        f.at_is,
        spread-label s e cs js ls f h i o p x.0 x.1,
        o s f.at (omega arith) (omega arith) f.at_from f.at_to,
      ))
  | inr y ↦ (let (q, ql, c, m) = old p (omega arith) in (q, ql, y ∙ c, m))
]

-- labels that are respected, where each cluster is that of an old place with the same label
pub record Labelled (ds ks cs ls : List ℕ) : Type 0 where
  pub respected : IsLabelled cs ls
  pub of_old : OfOldPlaces ds ks cs ls

joined-labels : (level : BufferClusterLevel) (s e : ℕ) (ds ks cs ls : List ℕ) → e ≤ length cs → Labelled ds ks cs ls
    → OneAlong ls (s, e) → Labelled ds ks (joined level s e cs) ls
joined-labels level s e ds ks cs ls w i o = search (
  joined-labelled level s e cs ls w i.respected o,
  joined_cases (λ js. OfOldPlaces ds ks js ls) level s e cs w (λ _. i.of_old)
      (λ js _ h f. spread-of_old s e ds ks cs js ls f (omega arith) i.respected o i.of_old),
)

joined_all-labels : (level : BufferClusterLevel) (sts : List (ℕ × ℕ)) (ds ks cs ls : List ℕ) → EndWithin (length cs) sts
    → Labelled ds ks cs ls → AllByRecursion (OneAlong ls) sts → Labelled ds ks (joined_all level sts cs) ls
joined_all-labels level [] ds ks cs ls w i o = i
joined_all-labels level (st ∷ sts) ds ks cs ls w i o =
    joined_all-labels level sts ds ks (joined level st.0 st.1 cs) ls (search end_within_joined)
    (search joined-labels) o.1

pick-labels : (ps ds ks cs ls : List ℕ) → AllByRecursion (λ p. p < length cs) ps → Labelled ds ks cs ls
    → Labelled ds ks (pick ps cs) (pick ps ls)
pick-labels ps ds ks cs ls w i =
    let v = subst (λ n. AllByRecursion (λ p. p < n) ps) (sym i.respected.as_many) w in
    let n = length-pick ps cs w in
    let cluster =
    get_or-pick 0 ps cs w in
    let label =
    get_or-pick 0 ps ls v in
    let inside = within_at (length cs) ps w in
    record {
      respected = search (arith, length-pick ps ls v);
      of_old = λ p l.
          let pn : p < length ps = omega arith in
          let (q, ql, c, m) = i.of_old (get_or ps p 0) (inside p pn) in
          (q, ql, cluster p pn ∙ c, label p pn ∙ m);
    }

-- labels, and the clusters that steps still to come find
moved-labels : (n : ℕ) (level : BufferClusterLevel) (steps : List Step) (ds ks cs olds ls : List ℕ) → length cs ≡ n
    → FitSteps n steps → AllByRecursion (λ p. p < length ls) olds → Labelled ds ks cs (pick olds ls)
    → OneLabelEach steps (pick olds ls) → Labelled ds ks (joined_steps level steps cs) (pick (moved_on steps olds) ls)
moved-labels n level [] ds ks cs olds ls e f w i o = i
moved-labels n level (step ∷ steps) ds ks cs olds ls e f w i o =
    let same = pick-pick step.places olds ls w in
    moved-labels n level steps ds ks (joined_step level step cs) (pick step.places olds) ls
    (stepped n level step cs e f.0).as_many f.1 (search within_picked) (subst
    (λ xs. Labelled ds ks (joined_step level step cs) xs) same (
    let s = stepped n level step cs e f.0 in search (joined_all-labels, pick-labels))) (subst
    (λ xs. OneLabelEach steps xs) same o.2)

-- if each stretch has one label as it merges, places that share a cluster in the end have equal
-- labels, and each has the cluster of
-- an old place with its label
pub joined_steps-labels : (level : BufferClusterLevel) (steps : List Step) (cs ls : List ℕ) → FitSteps (length cs) steps
    → IsLabelled cs ls → OneLabelEach steps ls
    → Labelled cs ls (joined_steps level steps cs) (pick (old_places (length cs) steps) ls)
joined_steps-labels level steps cs ls f i o =
    let e = pick-all (length cs) ls i.as_many in
    moved-labels (length cs) level steps cs ls cs (range_with_len 0 (length cs)) ls refl f
    (search (arith, within_range)) (subst (λ xs. Labelled cs ls cs xs) (sym e)
    (record { respected = i; of_old = λ p l. (p, l, refl, refl) })) (subst (λ xs. OneLabelEach steps xs) (sym e) o)
