-- Labels that the merged stretches have in the end, they have as they merge, where later steps spare what merged.
use Rattle.std.proofs.Common.{ℕ, ◌-◌, ◌<◌, ◌≤◌, ◌≡◌, true, inl, inr, List, [], ◌∷◌, ◌++◌, length, get_or, refl, sym, ◌∙◌, subst, arith}
use Rattle.std.specs.List.{AllByRecursion, Contains, range_with_len}
use Rattle.std.specs.List.Sorted.{IsPermutation}
use Rattle.std.proofs.lemmas.List.{get_or_default}
use Rattle.std.proofs.lemmas.List.Elements.{All-contains_itself}
use Rattle.std.proofs.lemmas.List.FromFn.{get_or-range_with_len, length-range_with_len}
use Rattle.std.proofs.lemmas.List.Sorted.{All-permutation, IsPermutation-sym}
use Rattle.shapers_buffer.specs.Places.{pick}
use Rattle.shapers_buffer.proofs.MappedLists.{all-append}
use Rattle.shapers_clusters.specs.Cuts.{OneAlong, held}
use Rattle.shapers_clusters.specs.Labels.{OneLabelEach}
use Rattle.shapers_clusters.specs.Steps.{FitSteps, HeldBetween, MovesMerged, Permutes, SpareMerged, Spares, Step, all_merged, moved_on}
use Rattle.shapers_clusters.proofs.Neighbours.{in_stretch, share_all}
use Rattle.shapers_clusters.proofs.Picks.{get_or-pick, length-pick}

-- what holds of all of two lists
pub all_split : {X : Type 0} (P : X → Type 0) (xs ys : List X) → AllByRecursion P (xs ++ ys) → AllByRecursion P xs
    × AllByRecursion P ys
all_split P [] ys h = (tt, h)
all_split P (x ∷ xs) ys h = (let rest = all_split P xs ys h.1 in ((h.0, rest.0), rest.1))

-- neighbours that a stretch holds have equal labels, and so have places that the stretches hold together
pub held_label : (sts : List (ℕ × ℕ)) (ls : List ℕ) → AllByRecursion (OneAlong ls) sts → (r : ℕ) → held sts r ≡ true
    → get_or ls (r - 1) 0 ≡ get_or ls r 0
held_label [] ls one r h = absurd (cc h)
held_label (st ∷ sts) ls one r h = elim (in_stretch st.0 st.1 r (held sts r) h) [
  | inl a ↦ one.0 (r - 1) r (omega arith) (omega arith) (omega arith) a.1
  | inr rest ↦ held_label sts ls one.1 r rest
]

between_label : (sts : List (ℕ × ℕ)) (ls : List ℕ) → AllByRecursion (OneAlong ls) sts → (p q : ℕ) → HeldBetween sts p q
    → get_or ls q 0 ≡ get_or ls p 0
between_label = search (arith, share_all, held_label)

-- each of n places stands somewhere in a list that takes each once
pub taken_once : (n : ℕ) (ps : List ℕ) → IsPermutation (range_with_len 0 n) ps → (q : ℕ) → q < n
    → (p : ℕ) × (p < length ps) × (get_or ps p 0 ≡ q)
taken_once n ps perm q l =
    let range = range_with_len 0 n in
    let (p, inside, found) =
    (All-permutation (Contains ps) ps range (IsPermutation-sym range ps perm) (All-contains_itself ps)) q 0 (omega (
      arith,
      length-range_with_len 0 n,
    )) in
    search (arith, get_or_default, get_or-range_with_len)

-- the labels of a stretch stay through steps that spare it
label_stays : (n : ℕ) (steps : List Step) (ls : List ℕ) → length ls ≡ n → FitSteps n steps → OneLabelEach steps ls
    → (st : ℕ × ℕ) → st.1 ≤ n → AllByRecursion (Spares n st) steps → (p : ℕ) → st.0 ≤ p → p < st.1
    → get_or (moved_on steps ls) p 0 ≡ get_or ls p 0
label_stays n [] ls long fits each st end spares p a b = refl
label_stays n (step ∷ steps) ls long fits each st end spares p a b =
    let one = fits.0 in
    let within =
    subst (λ k. AllByRecursion (λ p. p < k) step.places) (sym long) one.within in
    let ms = pick step.places ls in
    let picked : get_or ms p 0 ≡ get_or ls (get_or step.places p 0) 0 =
    search (arith, get_or-pick) in
    search (
      arith,
      between_label,
      label_stays n steps ms (length-pick step.places ls within ∙ one.as_many) fits.1 each.2 st end spares.1 p a b,
    )

-- one label in the end, so one label before the steps that spare the stretch
one_before : (n : ℕ) (steps : List Step) (ls : List ℕ) → length ls ≡ n → FitSteps n steps → OneLabelEach steps ls
    → (sts : List (ℕ × ℕ)) → AllByRecursion (λ st. st.1 ≤ n) sts
    → AllByRecursion (λ st. AllByRecursion (Spares n st) steps) sts → AllByRecursion (OneAlong (moved_on steps ls)) sts
    → AllByRecursion (OneAlong ls) sts
one_before n steps ls long fits each [] ends spares one = tt
one_before n steps ls long fits each (st ∷ sts) ends spares one =
    let stays : (p : ℕ) → st.0 ≤ p → p < st.1 → get_or (moved_on steps ls) p 0 ≡ get_or ls p 0 =
    search label_stays in
    search (arith, one_before n steps ls long fits each sts ends.1 spares.1 one.1)

-- a step that moves inside what it merged moves no label, where the stretches have one label each behind it
label_unmoved : (n : ℕ) (step : Step) (ls : List ℕ) → length ls ≡ n → MovesMerged n step → Permutes n step
    → AllByRecursion (OneAlong (pick step.places ls)) step.merged_first → (q : ℕ) → q < n
    → get_or (pick step.places ls) q 0 ≡ get_or ls q 0
label_unmoved n step ls long moves perm one q l =
    let within : AllByRecursion (λ p. p < length ls) step.places = subst (λ k. AllByRecursion (λ p. p < k)
    step.places) (sym long) moves.fits.within in
    let (p, inside, at) = taken_once n step.places perm q l in
    search (arith, between_label, get_or-pick)

same_labels : (n : ℕ) (ls ms : List ℕ) → ((q : ℕ) → q < n → get_or ms q 0 ≡ get_or ls q 0) → (sts : List (ℕ × ℕ))
    → AllByRecursion (λ st. st.1 ≤ n) sts → AllByRecursion (OneAlong ms) sts → AllByRecursion (OneAlong ls) sts
same_labels n ls ms same [] ends one = tt
same_labels n ls ms same (st ∷ sts) ends one = search (arith, same_labels n ls ms same sts ends.1 one.1)

pub labels_as_merged : (n : ℕ) (steps : List Step) (ls : List ℕ) → length ls ≡ n → FitSteps n steps
    → AllByRecursion (Permutes n) steps → SpareMerged n steps
    → AllByRecursion (OneAlong (moved_on steps ls)) (all_merged steps) → OneLabelEach steps ls
labels_as_merged n [] ls long fits perm spare one = tt
labels_as_merged n (step ∷ steps) ls long fits perm spare one =
    let fit = fits.0 in
    let within : AllByRecursion (λ p. p < length ls) step.places =
    subst (λ k. AllByRecursion (λ p. p < k) step.places) (sym long) fit.within in
    let ms = pick step.places ls in
    let ml : length ms ≡ n = search length-pick in
    let parts = all_split (OneAlong (moved_on steps ms)) (step.merged_first ++ step.merged_then) (all_merged steps)
    one in
    let rest = labels_as_merged n steps ms ml fits.1 perm.1 spare.2 parts.1 in
    let ends = all-append (λ (st : ℕ × ℕ). st.1 ≤ n) step.merged_first step.merged_then fit.first_within
    fit.then_within in
    let both = all_split (OneAlong ms) step.merged_first step.merged_then (search one_before) in
    let first : AllByRecursion (OneAlong ls) step.merged_first = elim spare.0 [
      | inl none ↦ subst (AllByRecursion (OneAlong ls)) (sym none) tt
      | inr moves ↦ same_labels n ls ms (label_unmoved n step ls long moves perm.0 both.0) step.merged_first
          fit.first_within both.0
    ] in
    (first, both.1, rest)
