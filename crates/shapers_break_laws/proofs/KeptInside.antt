-- Steps that move only inside what they merged keep in each run of a cluster a glyph with its flags.
use Rattle.std.proofs.Common.{ℕ, ◌<◌, ◌≤◌, ◌≡◌, min, max, true, List, [], ◌∷◌, ◌++◌, length, get_or, sym, ap, ◌∙◌, subst, arith, inl, inr}
use Rattle.std.specs.List.{AllByRecursion, Contains, range_with_len}
use Rattle.std.specs.List.Sorted.{IsPermutation}
use Rattle.std.proofs.lemmas.Bool.{cases_lt}
use Rattle.std.proofs.lemmas.List.{get_or_default, length-map}
use Rattle.std.proofs.lemmas.List.Elements.{All-contains_itself, All-get_or, AllZip-get_or}
use Rattle.std.proofs.lemmas.List.FromFn.{get_or-range_with_len, length-range_with_len}
use Rattle.std.proofs.lemmas.List.Sorted.{Contains-permutation}
use Rattle.shapers_buffer.specs.Glyphs.{Glyph, Glyphs}
use Rattle.shapers_buffer.specs.declared.buffer.level.BufferClusterLevel.{BufferClusterLevel}
use Rattle.shapers_buffer.specs.Clusters.{in_cluster, merge_all, merges}
use Rattle.shapers_buffer.specs.Glyph.{clusters, default_glyph}
use Rattle.shapers_buffer.specs.Places.{pick}
use Rattle.shapers_clusters.specs.Cuts.{ShareCluster}
use Rattle.shapers_clusters.specs.Flags.{FallsTo}
use Rattle.shapers_clusters.specs.Steps.{FitSteps, MovesMerged, Permutes, SpareMerged, Step, all_first, old_places, after_step, after_steps}
use Rattle.shapers_clusters.proofs.Falls.{merge_all-falls}
use Rattle.shapers_clusters.proofs.Merging.{length-merge_all}
use Rattle.shapers_clusters.proofs.Moves.{clusters-merge_all, end_within-all_first, length-old_places, merged_fits, within-old_places}
use Rattle.shapers_clusters.proofs.Permuted.{moved-permuted}
use Rattle.shapers_clusters.proofs.Picks.{get_or-pick, length-pick}
use Rattle.shapers_clusters.proofs.Proved.{merged_steps_hold, steps_hold}
use Rattle.shapers_break_laws.proofs.Keepers.{AllAt, HaveKeepers, cluster_at, keepers-merge_all, keepers_moved, own_keepers}

-- places that share a cluster with all between, over a third one
share_on : (cs : List ℕ) (p q t : ℕ) → ShareCluster cs p q → ShareCluster cs q t → ShareCluster cs p t
share_on cs p q t a b r x y =
    let e : get_or cs q 0 ≡ get_or cs p 0 = a q (omega arith) (omega arith) in
    elim (cases_lt r (min p q)) [
      | inl h ↦ b r (omega arith) (omega arith) ∙ e
      | inr h ↦ elim (cases_lt (max p q) r) [
        | inl k ↦ b r (omega arith) (omega arith) ∙ e
        | inr k ↦ a r h k
      ]
    ]

share_back : (cs : List ℕ) (p q : ℕ) → ShareCluster cs p q → ShareCluster cs q p
share_back cs p q a r x y = a r (omega arith) (omega arith) ∙ sym (a q (omega arith) (omega arith))

-- a place of a permutation
place_found : (n k : ℕ) (olds : List ℕ) → IsPermutation (range_with_len 0 n) olds → k < n → (t : ℕ) × (t < length olds)
    × (get_or olds t 0 ≡ k)
place_found n k olds perm l =
    let range = range_with_len 0 n in
    let long = length-range_with_len 0 n in
    let own : Contains range (get_or range k 0) = All-get_or (Contains range) range k 0 (omega arith)
    (All-contains_itself range) in
    let is : get_or range k 0 ≡ k = get_or-range_with_len 0 n k 0 l ∙ omega arith in
    let found = Contains-permutation range olds k perm (subst (Contains range) is own) in
    (found.0, found.1, get_or_default olds found.0 0 k found.1 ∙ found.2)

pub keepers_inside : (P : Glyph → Type 0) (level : BufferClusterLevel) → merges level ≡ true →
    (steps : List Step) (gs : Glyphs) → AllByRecursion (MovesMerged (length gs)) steps → AllByRecursion
    (Permutes (length gs)) steps → HaveKeepers P gs → HaveKeepers P (after_steps level steps gs)
keepers_inside P level m steps gs moves permutes keepers =
    let d = default_glyph in
    let n = length gs in
    let cs = clusters gs in
    let cn : length cs ≡ n = length-map gs (λ g. g.cluster) in
    let olds = old_places n steps in
    let fit = merged_fits n steps moves in
    let many = length-old_places n steps fit in
    let within = within-old_places n steps in
    let law = merged_steps_hold level steps cs m (subst (λ k. AllByRecursion (MovesMerged k) steps) (sym cn) moves) in
    let hold = steps_hold level steps gs fit in
    let rs = after_steps level steps gs in
    let sts = all_first steps in
    let ms = merge_all level sts gs in
    let ends = end_within-all_first n steps moves in
    let have = keepers-merge_all P level sts gs ends keepers in
    let long : length ms ≡ n = length-merge_all level sts gs ends in
    let same : clusters ms ≡ clusters rs = clusters-merge_all level sts gs ∙ sym law.only_merged
    ∙ sym hold.clusters_are in
    let perm : IsPermutation (range_with_len 0 n) olds = moved-permuted n steps (range_with_len 0 n)
    (length-range_with_len 0 n) fit permutes in
    let rn = hold.same_length in
    λ i il.
    let k = have i (omega arith) in
    let kl = k.within in
    let (t, tl, is) = place_found n k.at olds perm (omega arith) in
    let first : ShareCluster (clusters rs) i k.at = subst (λ js. ShareCluster js i k.at) same k.shares in
    let back : ShareCluster (clusters rs) t (get_or (old_places (length cs) steps) t 0) =
    subst (λ js. ShareCluster js t (get_or (old_places (length cs) steps) t 0)) (sym hold.clusters_are)
    (law.cluster_law t (omega arith)) in
    let there : get_or (old_places (length cs) steps) t 0 ≡ k.at =
    ap (λ j. get_or (old_places j steps) t 0) cn ∙ is in
    let second : ShareCluster (clusters rs) t k.at = subst (ShareCluster (clusters rs) t) there back in
    let g = get_or gs k.at d in
    let x = get_or ms k.at d in
    let y = get_or rs t d in
    let from : get_or (pick olds gs) t d ≡ g = get_or-pick d olds gs within t tl ∙ ap (λ j. get_or gs j d) is in
    let pn : length (pick olds gs) ≡ n = length-pick olds gs within ∙ many in
    let fx : FallsTo g x = AllZip-get_or FallsTo gs ms k.at d d (merge_all-falls level sts gs ends) (omega arith) in
    let fy : FallsTo g y = subst (λ h. FallsTo h y) from
    (AllZip-get_or FallsTo (pick olds gs) rs t d d hold.falls (omega arith)) in
    let one : x.cluster ≡ y.cluster = sym (cluster_at ms k.at kl) ∙ ap (λ js. get_or js k.at 0) same
    ∙ second k.at (omega arith) (omega arith) ∙ cluster_at rs t (omega arith) in
    let equal : x ≡ y = fx.1 ∙ ap (λ c. in_cluster c g) one ∙ sym fy.1 in
    record {
      at = t;
      within = omega arith;
      shares = share_on (clusters rs) i k.at t first (share_back (clusters rs) t k.at second);
      holds = subst P equal k.holds;
    }

-- steps that spare what earlier ones merged, and each merge something before they move
moved_rest : (n : ℕ) (steps : List Step) → SpareMerged n steps → AllByRecursion (λ s. 0 < length s.merged_first) steps
    → AllByRecursion (MovesMerged n) steps
moved_rest n [] spare first = tt
moved_rest n (s ∷ ss) spare first = (
  elim spare.0 [ inl e ↦ absurd (omega (arith, ap length e, first.0)) | inr moves ↦ moves ],
  moved_rest n ss spare.2 first.1,
)

-- at most one step that moves before it merges, and then such
pub one_moves : (P : Glyph → Type 0) (level : BufferClusterLevel) → merges level ≡ true →
    (few rest : List Step) (gs : Glyphs) → length few ≤ 1 → FitSteps (length gs) (few ++ rest)
    → AllByRecursion (Permutes (length gs)) (few ++ rest) → SpareMerged (length gs) (few ++ rest) → AllByRecursion
    (λ s. 0 < length s.merged_first) rest → AllAt P gs → HaveKeepers P (after_steps level (few ++ rest) gs)
one_moves P level m [] rest gs h fits permutes spare first all = keepers_inside P level m rest gs
    (moved_rest (length gs) rest spare first) permutes (own_keepers P gs all)
one_moves P level m (s ∷ []) rest gs h fits permutes spare first all =
    let n = length gs in
    let xs = after_step level s gs in
    let same : length xs ≡ n = (steps_hold level (s ∷ []) gs (fits.0, tt)).same_length in
    let have : HaveKeepers P xs = elim spare.0 [
      | inl e ↦ keepers_moved P level s gs fits.0 e all
      | inr moves ↦ keepers_inside P level m (s ∷ []) gs (moves, tt) (permutes.0, tt) (own_keepers P gs all)
    ] in
    keepers_inside P level m rest xs (subst (λ k. AllByRecursion (MovesMerged k) rest) (sym same)
    (moved_rest n rest spare.2 first)) (subst (λ k. AllByRecursion (Permutes k) rest) (sym same) permutes.1) have
one_moves P level m (s ∷ (t ∷ few)) rest gs h fits permutes spare first all = absurd (omega arith)
