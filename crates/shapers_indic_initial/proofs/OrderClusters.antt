-- What the order of a syllable makes of its clusters.
use Rattle.std.proofs.Common.{ℕ, ◌+◌, ◌-◌, ◌<◌, ◌≤◌, ◌≡◌, ◌≢◌, inl, inr, true, ◌||◌, ◌&&◌, nat_lt, List, [], ◌∷◌, length, get_or, sym, ◌∙◌, ap, subst, arith}
use Rattle.std.specs.List.{AllByRecursion, range_with_len}
use Rattle.std.specs.List.Sorted.{IsPermutation}
use Rattle.std.proofs.lemmas.Bool.{cases_Bool, cases_lt, eqb-true}
use Rattle.std.proofs.lemmas.List.Sorted.{IsPermutation-keeps}
use Rattle.shapers_buffer.specs.declared.buffer.level.BufferClusterLevel.{BufferClusterLevel}
use Rattle.shapers_buffer.specs.Clusters.{merges}
use Rattle.shapers_buffer.specs.Places.{pick}
use Rattle.shapers_buffer.proofs.MappedLists.{all-mapped, all-range}
use Rattle.shapers_clusters.specs.Cuts.{AllDifferent, EndWithin, ExactCuts, OneAlong, held, linked}
use Rattle.shapers_clusters.specs.ClusterMerges.{joined_all}
use Rattle.shapers_clusters.proofs.Moves.{HeldIn, all_held}
use Rattle.shapers_clusters.proofs.Neighbours.{joined_all-linked, share_all}
use Rattle.shapers_clusters.proofs.Permuted.{length_permuted, picked-permuted, within_permuted}
use Rattle.shapers_clusters.proofs.SparedCuts.{different_permuted}
use Rattle.shapers_clusters.proofs.Picks.{length-pick}
use Rattle.shapers_indic.specs.Glyphs.{places}
use Rattle.shapers_indic_initial.specs.CycleWalk.{EachOnce}
use Rattle.shapers_indic_initial.specs.InitialClusters.{OrderMergesLaw, joined_stretches, way_of}
use Rattle.shapers_indic_initial.specs.InitialOrder.{ordered_base, indic_ordered_places, ordered_stretches}
use Rattle.shapers_indic_initial.specs.InitialReordering.{in_indic_order}
use Rattle.shapers_indic_initial.specs.InitialRules.{Rules}
use Rattle.shapers_indic_initial.proofs.CycleSteps.{once_range}
use Rattle.shapers_indic_initial.proofs.CycleWays.{held_by_ways}
use Rattle.shapers_indic_initial.proofs.Cycles.{once-swap}
use Rattle.shapers_clusters.proofs.GatheredCuts.{different_gathered, exact_gathered}
use Rattle.shapers_indic_initial.specs.Proved.InitialSteps.{stretches_end}
use Rattle.shapers_indic_initial.specs.Proved.OrderedPlaces.{ordered_permutes}

-- places in some order are each there once
pub once_permuted : (n : ℕ) (from : List ℕ) → IsPermutation (range_with_len 0 n) from → EachOnce from
once_permuted n from perm = IsPermutation-keeps _ _ (once_range n) (λ xs i j h k o. once-swap xs i j h k o) from perm

-- the stretches that are kept together hold the neighbours that those hold that merge; they begin
-- at the base or behind it and end within
pub held_together : (r : Rules) (from : List ℕ) (base i : ℕ) → EachOnce from → held (ordered_stretches r from base) i
    ≡ held (joined_stretches r from base) i
held_together = search (arith, held_by_ways)

pub record Lies (base n : ℕ) (st : ℕ × ℕ) : Type 0 where
  pub low : base ≤ st.0
  pub high : st.1 ≤ n

pub together_lies : (r : Rules) (from : List ℕ) (base : ℕ) → EachOnce from
    → AllByRecursion (Lies base (length from)) (joined_stretches r from base)
together_lies r from base o = search (
  arith,
  all-mapped (λ p. p < length from) (Lies base (length from)) (way_of from base) (places base (length from))
      (λ p l. record { low = omega arith; high = omega arith })
      (all-range (λ p. p < length from) base (length from - base) (λ p low high. omega arith)),
)

-- what holds of all, by two things that do
pub all_by_two : {X : Type 0} (P Q R : X → Type 0) → ((x : X) → P x → Q x → R x) → (xs : List X) → AllByRecursion P xs
    → AllByRecursion Q xs → AllByRecursion R xs
all_by_two P Q R each [] h i = tt
all_by_two P Q R each (x ∷ xs) h i = (each x h.0 i.0, all_by_two P Q R each xs h.1 i.1)

-- nothing before the base is held
record Behind (base i : ℕ) : Type 0 where
  pub above : base < i

held_behind : (base n : ℕ) (sts : List (ℕ × ℕ)) (i : ℕ) → AllByRecursion (Lies base n) sts → held sts i ≡ true
    → Behind base i
held_behind base n [] i all h = absurd (cc h)
held_behind base n (st ∷ sts) i all h = elim (cases_Bool (nat_lt st.0 i && nat_lt i st.1)) [
  | inl t ↦ (let low = all.0.low in let k : st.0 < i = grind arith in record { above = omega arith })
  | inr f ↦ held_behind base n sts i all.1 (sym (ap (λ b. b || held sts i) f) ∙ h)
]

-- exact cuts by other stretches that hold the same neighbours
linked_same : (xs : List ℕ) (sts others : List (ℕ × ℕ)) → ((i : ℕ) → held sts i ≡ held others i) → (i : ℕ)
    → linked xs sts i ≡ linked xs others i
linked_same xs sts others same i = cc (same i)

exact_by : (xs : List ℕ) (sts others : List (ℕ × ℕ)) (js : List ℕ) → ((i : ℕ) → held sts i ≡ held others i)
    → ExactCuts xs sts js → ExactCuts xs others js
exact_by xs sts others js same f =
    let e = linked_same xs sts others same in
    record {
      same_length = f.same_length;
      cuts = search arith;
      reached = λ p l. let (q, ql, block, at) = f.reached p l in (q, ql, λ i x y. sym (e i) ∙ block i x y, at);
      least = λ p q pl ql block. f.least p q pl ql (λ i x y. e i ∙ block i x y);
    }

-- a stretch whose neighbours are all held is in one cluster
pub one_cluster : (level : BufferClusterLevel) → merges level ≡ true → (sts : List (ℕ × ℕ)) (xs : List ℕ)
    → EndWithin (length xs) sts → (st : ℕ × ℕ) → st.1 ≤ length xs → HeldIn sts st
    → OneAlong (joined_all level sts xs) st
one_cluster level m sts xs ends st within all p q pl ph ql qh =
    sym (share_all _ p q (λ i a b. search (arith, joined_all-linked)) q (omega arith) (omega arith))

-- a place before the base keeps its cluster
unlinked_before : (base n : ℕ) (sts : List (ℕ × ℕ)) (xs : List ℕ) → AllByRecursion (Lies base n) sts
    → ((a c : ℕ) → a < c → c < length xs → get_or xs a 0 ≢ get_or xs c 0) → (i : ℕ) → 0 < i → i ≤ base → i < length xs
    → linked xs sts i ≡ true → ⊥
unlinked_before base n sts xs lies different i z h l t = elim (cases_Bool _) [
  | inl e ↦ different (i - 1) i (omega arith) l (eqb-true _ _ e)
  | inr f ↦ let b = held_behind base n sts i lies (sym (ap (λ b. b || held sts i) f) ∙ t) in search arith
]

kept_before : (base n : ℕ) (sts : List (ℕ × ℕ)) (xs js : List ℕ) → AllByRecursion (Lies base n) sts
    → ((a c : ℕ) → a < c → c < length xs → get_or xs a 0 ≢ get_or xs c 0) → ExactCuts xs sts js → (p : ℕ) → p < base
    → p < length xs → get_or js p 0 ≡ get_or xs p 0
kept_before base n sts xs js lies different f p b l =
    let (q, ql, block, at) = f.reached p l in
    elim (cases_lt p q) [
      | inl h ↦ absurd (unlinked_before base n sts xs lies different (p + 1) (omega arith) (omega arith) (omega arith)
          (block (p + 1) (omega arith) (omega arith)))
      | inr h ↦ search (arith, unlinked_before)
    ]

pub order_merges : OrderMergesLaw
order_merges r level gs cs m long =
    let from = indic_ordered_places gs in
    let base = ordered_base (in_indic_order gs) in
    let n = length gs in
    let perm = ordered_permutes gs in
    let o = once_permuted n from perm in
    let fl = length_permuted n from perm in
    let sts = ordered_stretches r from base in
    let ways = joined_stretches r from base in
    let within =
    subst (λ k. AllByRecursion (λ p. p < k) from) (sym long) (within_permuted n from perm) in
    let xs = pick from cs in
    let xl = length-pick from cs within ∙ fl in
    let ends = subst (λ k. EndWithin k sts) (sym xl) (stretches_end r from base n perm) in
    let lies = together_lies r from base o in
    let same = λ (i : ℕ). held_together r from base i o in
    let js = joined_all level sts xs in
    let different = λ (h : AllDifferent cs). different_permuted cs xs (picked-permuted n from cs long within perm) h in
    let exact = λ (h : AllDifferent cs). exact_by xs sts ways js same
    (exact_gathered level m sts xs ends (different_gathered xs (different h))) in
    record {
      together = all_by_two _ _ _
          (λ st a b. one_cluster level m sts xs ends st (omega arith) (λ i x y. same i ∙ b i x y)) ways lies
          (all_held ways);
      exact = exact;
      before = λ h p b l. kept_before base _ ways xs js lies (λ a c l k. different h a c 0 l k) (exact h) p
          b (omega arith);
    }
