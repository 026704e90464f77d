-- Exact cuts after steps that spare what merged, where all clusters are different.
use Rattle.std.proofs.Common.{ℕ, zero, suc, ◌+◌, ◌-◌, ◌==◌, ◌<◌, ◌≤◌, ◌≡◌, Bool, true, false, not, if◌then◌else◌, inl, inr, List, [], ◌∷◌, map, length, get_or, eqb, min, max, sym, ◌∙◌, ap, subst, arith}
use Rattle.std.specs.List.{AllByRecursion, prefix_len, range_with_len}
use Rattle.std.specs.List.Sorted.{IsPermutation}
use Rattle.std.proofs.lemmas.Bool.{cases_Bool, cases_lt}
use Rattle.std.proofs.lemmas.Bool.Decides.{Decides-eqb}
use Rattle.std.proofs.lemmas.List.{ext_get_or, get_or-map, length-map}
use Rattle.std.proofs.lemmas.List.FromFn.{get_or-range_with_len, length-range_with_len}
use Rattle.std.proofs.lemmas.List.Sums.{prefix_len_passes, prefix_len_stops}
use Rattle.std.proofs.lemmas.Map.Keys.{IsDistinct-IsPermutation}
use Rattle.std.proofs.lemmas.Map.Made.{AllPairs-from_IsDistinct, IsDistinct-from_AllPairs}
use Rattle.shapers_buffer.specs.declared.buffer.level.BufferClusterLevel.{BufferClusterLevel}
use Rattle.shapers_buffer.specs.Clusters.{merges}
use Rattle.shapers_buffer.specs.Places.{pick}
use Rattle.shapers_clusters.specs.Cuts.{AllDifferent, EndWithin, ExactCuts, OneAlong, held, linked}
use Rattle.shapers_clusters.specs.ClusterMerges.{joined_all}
use Rattle.shapers_clusters.specs.Steps.{FitSteps, FitsStep, Permutes, SpareMerged, Step, all_merged, joined_step, joined_steps, moved_on, old_places}
use Rattle.shapers_clusters.proofs.Labels.{Labelled, joined_steps-labels}
use Rattle.shapers_clusters.proofs.LabelsAsMerged.{held_label, labels_as_merged, taken_once}
use Rattle.shapers_clusters.proofs.Moves.{HeldIn, all_held, end_within-append, length-old_places, moved_by_old_places, stepped, within-old_places}
use Rattle.shapers_clusters.proofs.Neighbours.{joined_all-falls, share_all}
use Rattle.shapers_clusters.proofs.Permuted.{moved-permuted, picked-permuted}
use Rattle.shapers_clusters.proofs.Picks.{get_or-pick, length-pick, within_at}
use Rattle.shapers_clusters.proofs.StaysMerged.{merged_stay}

-- numbers that differ still do in another order
eqb_flips : (a b : ℕ) → eqb a b ≡ eqb b a
eqb_flips = grind arith

pub different_permuted : (xs ys : List ℕ) → IsPermutation xs ys → AllDifferent xs → AllDifferent ys
different_permuted xs ys perm h =
    AllPairs-from_IsDistinct Decides-eqb ys
    (IsDistinct-IsPermutation eqb eqb_flips xs ys perm (IsDistinct-from_AllPairs Decides-eqb xs h))

-- of numbers that differ, equal ones stand at one place
pub one_place : (xs : List ℕ) → AllDifferent xs → (i j : ℕ) → i < length xs → j < length xs
    → get_or xs i 0 ≡ get_or xs j 0 → i ≡ j
one_place = search arith

different_range : (n : ℕ) → AllDifferent (range_with_len 0 n)
different_range n i j d l m e =
    let k = length-range_with_len 0 n in
    let a : get_or (range_with_len 0 n) i d ≡ i = search (arith, get_or-range_with_len) in
    let b : get_or (range_with_len 0 n) j d ≡ j = search (arith, get_or-range_with_len) in
    omega arith

-- where a number stands
abbrev is_other : ℕ → ℕ → Bool
is_other q x = not (x == q)

abbrev place_of : List ℕ → ℕ → ℕ
place_of xs q = prefix_len (is_other q) xs

not_other : (q x : ℕ) → is_other q x ≡ false → x ≡ q
not_other = grind arith

place_of_at : (xs : List ℕ) → AllDifferent xs → (i : ℕ) → i < length xs → place_of xs (get_or xs i 0) ≡ i
place_of_at xs different i l =
    let q = get_or xs i 0 in
    let k = place_of xs q in
    elim (cases_lt i k) [
      | inl a ↦ search (arith, prefix_len_passes)
      | inr a ↦ one_place xs different k i (omega arith) l
          (not_other q (get_or xs k 0) (prefix_len_stops (is_other q) xs 0 (omega arith)))
    ]

-- the labels of old places, from those of new ones
abbrev labels_before : ℕ → List ℕ → List ℕ → List ℕ
labels_before n olds ms = map (λ q. get_or ms (place_of olds q) 0) (range_with_len 0 n)

length-labels_before : (n : ℕ) (olds ms : List ℕ) → length (labels_before n olds ms) ≡ n
length-labels_before = search (length-map, length-range_with_len)

-- the blocks, numbered
number_of : List (ℕ × ℕ) → ℕ → ℕ
number_of sts zero = 0
number_of sts (suc p) = if held sts (suc p) then number_of sts p else suc (number_of sts p)

number_held : (sts : List (ℕ × ℕ)) (p : ℕ) → held sts (suc p) ≡ true → number_of sts (suc p) ≡ number_of sts p
unfolding number_of
number_held sts p h = cc

number_cut : (sts : List (ℕ × ℕ)) (p : ℕ) → held sts (suc p) ≡ false → number_of sts (suc p) ≡ suc (number_of sts p)
unfolding number_of
number_cut sts p h = cc

number_rises : (sts : List (ℕ × ℕ)) (p k : ℕ) → number_of sts p ≤ number_of sts (p + k)
number_rises sts p zero = search arith
number_rises sts p (suc k) =
    let i : suc (p + k) ≡ p + suc k = omega arith in search (arith, number_held, number_cut, number_rises sts p k)

number_to : (sts : List (ℕ × ℕ)) (p q : ℕ) → p ≤ q → number_of sts p ≤ number_of sts q
number_to sts p q = search (arith, number_rises sts p (q - p))

-- one number exactly where all neighbours between are held
held_between : (sts : List (ℕ × ℕ)) (p q : ℕ) → p ≤ q → number_of sts p ≡ number_of sts q → (r : ℕ) → p < r → r ≤ q
    → held sts r ≡ true
held_between sts p q l same r a b = elim (cases_Bool (held sts r)) [
  | inl h ↦ h
  | inr h ↦ (
      search (
        arith,
        number_cut sts (r - 1) (ap (held sts) (omega arith) ∙ h),
        number_to sts p (r - 1) (omega arith),
        number_to sts r q b,
      ))
]

held_in_block : (sts : List (ℕ × ℕ)) (p q : ℕ) → number_of sts p ≡ number_of sts q → (r : ℕ) → min p q < r → r ≤ max p q
    → held sts r ≡ true
held_in_block sts p q same r a b = elim (cases_lt q p) [
  | inl l ↦ held_between sts q p (omega arith) (sym same) r (omega arith) (omega arith)
  | inr l ↦ held_between sts p q l same r (omega arith) (omega arith)
]

one_number : (sts : List (ℕ × ℕ)) (p k : ℕ) → ((r : ℕ) → p < r → r ≤ p + k → held sts r ≡ true)
    → number_of sts (p + k) ≡ number_of sts p
one_number sts p zero h = search arith
one_number sts p (suc k) h = search (
  arith,
  number_held sts (p + k) (h (suc (p + k)) (omega arith) (omega arith)),
  one_number sts p k (λ r a b. h r a (omega arith)),
)

stretch_numbers : List (ℕ × ℕ) → ℕ → List ℕ
stretch_numbers sts n = map (number_of sts) (range_with_len 0 n)

number_at : (sts : List (ℕ × ℕ)) (n p : ℕ) → p < n → get_or (stretch_numbers sts n) p 0 ≡ number_of sts p
unfolding stretch_numbers
number_at sts n p l = search (
  arith,
  get_or-map (number_of sts) (range_with_len 0 n) p 0 0 (omega (arith, length-range_with_len 0 n)),
  get_or-range_with_len 0 n p 0 l,
)

length-numbers : (sts : List (ℕ × ℕ)) (n : ℕ) → length (stretch_numbers sts n) ≡ n
unfolding stretch_numbers
length-numbers = search (length-map, length-range_with_len)

-- each stretch has one number
one_in_stretch : (sts : List (ℕ × ℕ)) (n : ℕ) (st : ℕ × ℕ) → st.1 ≤ n → HeldIn sts st
    → OneAlong (stretch_numbers sts n) st
one_in_stretch sts n st end inside p q pl ph ql qh =
    let least = min p q in
    let first : (k : ℕ) → least + k < st.1 → number_of sts (least + k) ≡ number_of sts least =
    search (arith, one_number) in
    search (
      arith,
      number_at sts n p (omega arith),
      first (p - least) (omega arith),
      first (q - least) (omega arith),
      number_at sts n q (omega arith),
    )

one_each : (sts : List (ℕ × ℕ)) (n : ℕ) (xs : List (ℕ × ℕ)) → EndWithin n xs → AllByRecursion (HeldIn sts) xs
    → AllByRecursion (OneAlong (stretch_numbers sts n)) xs
one_each sts n [] ends inside = tt
one_each sts n (x ∷ xs) ends inside = search (one_in_stretch, one_each sts n xs ends.1 inside.1)

pub end_within-all_merged : (n : ℕ) (steps : List Step) → FitSteps n steps → EndWithin n (all_merged steps)
end_within-all_merged n [] fits = tt
end_within-all_merged n (step ∷ steps) fits = search (end_within-append, end_within-all_merged n steps fits.1)

-- no cluster rises
falls_step : (n : ℕ) (level : BufferClusterLevel) (step : Step) (cs ds : List ℕ) → length cs ≡ n → length ds ≡ n
    → FitsStep n step → ((p : ℕ) → p < n → get_or cs p 0 ≤ get_or ds p 0) → (p : ℕ) → p < n
    → get_or (joined_step level step cs) p 0 ≤ get_or (pick step.places ds) p 0
falls_step n level step cs ds long many fits low p l =
    let s = stepped n level step cs long fits in
    let js = joined_all level step.merged_first cs in
    let pl : p < length step.places = omega arith in
    let q = get_or step.places p 0 in
    omega (
      arith,
      joined_all-falls level step.merged_then (pick step.places js) s.then_within p,
      get_or-pick 0 step.places js s.within p pl,
      joined_all-falls level step.merged_first cs s.first_within q,
      low q (within_at n step.places fits.within p pl),
      get_or-pick 0 step.places ds (subst (λ k. AllByRecursion (λ p. p < k) step.places) (sym many) fits.within) p pl,
    )

falls_steps : (n : ℕ) (level : BufferClusterLevel) (steps : List Step) (cs ds : List ℕ) → length cs ≡ n → length ds ≡ n
    → FitSteps n steps → ((p : ℕ) → p < n → get_or cs p 0 ≤ get_or ds p 0) → (p : ℕ) → p < n
    → get_or (joined_steps level steps cs) p 0 ≤ get_or (moved_on steps ds) p 0
falls_steps n level [] cs ds long many fits low = low
falls_steps n level (step ∷ steps) cs ds long many fits low =
    let within : AllByRecursion (λ p. p < length ds) step.places =
    subst (λ k. AllByRecursion (λ p. p < k) step.places) (sym many) fits.0.within in
    falls_steps n level steps (joined_step level step cs) (pick step.places ds)
    (stepped n level step cs long fits.0).as_many (search length-pick) fits.1 (search falls_step)

-- what is known of such steps, by places: the numbers of blocks as labels
record Numbered (sts : List (ℕ × ℕ)) (n : ℕ) (ds js : List ℕ) : Type 0 where
  pub long : length ds ≡ n
  pub same_length : length js ≡ n
  pub different : AllDifferent ds
  pub shared : (p : ℕ) → 0 < p → p < n → held sts p ≡ true → get_or js (p - 1) 0 ≡ get_or js p 0
  pub apart : (p q : ℕ) → p < n → q < n → get_or js p 0 ≡ get_or js q 0 → number_of sts p ≡ number_of sts q
  pub of_block : (p : ℕ) → p < n → (q : ℕ) × (q < n) × (number_of sts p ≡ number_of sts q)
      × (get_or js p 0 ≡ get_or ds q 0)
  pub falls : (p : ℕ) → p < n → get_or js p 0 ≤ get_or ds p 0

numbered_by : (sts : List (ℕ × ℕ)) (n : ℕ) (olds cs ls js : List ℕ) → length cs ≡ n → length olds ≡ n → length ls ≡ n
    → IsPermutation (range_with_len 0 n) olds → AllByRecursion (λ p. p < n) olds → AllDifferent cs
    → pick olds ls ≡ stretch_numbers sts n → Labelled cs ls js (pick olds ls)
    → ((p : ℕ) → 0 < p → p < n → held sts p ≡ true → get_or js (p - 1) 0 ≡ get_or js p 0)
    → ((p : ℕ) → p < n → get_or js p 0 ≤ get_or (pick olds cs) p 0) → Numbered sts n (pick olds cs) js
numbered_by sts n olds cs ls js long ol ll order within different picked result shared falls =
    let ds = pick olds cs in
    let here =
    subst (λ k. AllByRecursion (λ p. p < k) olds) (sym long) within in
    let jl : length js ≡ n = search (arith, length-numbers) in
    let number : (p : ℕ) → p < n → get_or (pick olds ls) p 0 ≡ number_of sts p = search (arith, number_at) in
    record {
      long = length-pick olds cs here ∙ ol;
      same_length = jl;
      different = different_permuted cs ds (picked-permuted n olds cs long here order) different;
      shared = shared;
      apart = search (arith, result.respected.agree);
      of_block = λ p l.
          let (q, ql, cluster, label) = result.of_old p (omega arith) in
          let (x, xl, at) = taken_once n olds order q (omega arith) in
          search (
            arith,
            number p l,
            get_or-pick 0 olds ls (subst (λ k. AllByRecursion (λ p. p < k) olds) (sym ll) within) x xl,
            number x (omega arith),
            get_or-pick 0 olds cs here x xl,
          );
      falls = falls;
    }

-- labels with which the stretches end, where all clusters are different
labelled_by : (level : BufferClusterLevel) (n : ℕ) (steps : List Step) (cs ls ms : List ℕ) → length cs ≡ n
    → length ls ≡ n → FitSteps n steps → AllByRecursion (Permutes n) steps → SpareMerged n steps → AllDifferent cs
    → pick (old_places n steps) ls ≡ ms → AllByRecursion (OneAlong ms) (all_merged steps)
    → Labelled cs ls (joined_steps level steps cs) (pick (old_places n steps) ls)
labelled_by level n steps cs ls ms long ll fits perm spare different picked one =
    let moved : moved_on steps ls ≡ ms = search (arith, moved_by_old_places) in
    search (
      arith,
      joined_steps-labels level steps cs ls (subst (λ k. FitSteps k steps) (sym long) fits)
          (record {
            as_many = ll ∙ sym long;
            agree = λ p q pl ql same. ap (λ k. get_or ls k 0) (one_place cs different p q pl ql same);
          }) (labels_as_merged n steps ls ll fits perm spare (search arith)),
    )

numbered : (level : BufferClusterLevel) → merges level ≡ true → (n : ℕ) (steps : List Step) (cs : List ℕ)
    → length cs ≡ n → FitSteps n steps → AllByRecursion (Permutes n) steps → SpareMerged n steps → AllDifferent cs
    → Numbered (all_merged steps) n (pick (old_places n steps) cs) (joined_steps level steps cs)
numbered level m n steps cs long fits perm spare different =
    let olds = old_places n steps in
    let sts = all_merged steps in
    let ms = stretch_numbers sts n in
    let ll = length-labels_before n olds ms in
    let ol = length-old_places n steps fits in
    let within = within-old_places n steps in
    let order = moved-permuted n steps (range_with_len 0 n) (length-range_with_len 0 n) fits perm in
    let picked =
    let ms = stretch_numbers sts n in
    let ls = labels_before n olds ms in
    let there : AllByRecursion (λ p. p < length ls) olds = search length-labels_before in ext_get_or 0 (pick
    olds ls) ms (search (length-pick, length-numbers)) (λ p l. let pn : p < n =
    omega (arith, length-pick olds ls there) in get_or-pick 0 olds ls there p (omega arith)
    ∙ (let q = get_or olds p 0 in let ql : q < n = search (arith, within_at) in search (
      arith,
      get_or-map (λ q.
          get_or ms (place_of olds q) 0) (range_with_len 0 n) q 0 0 (omega (arith, length-range_with_len 0 n)),
      get_or-range_with_len 0 n q 0 ql,
      place_of_at olds (search (arith, different_permuted, different_range)) p (omega arith),
    ))) in
    let one = one_each sts n sts (end_within-all_merged n steps fits) (all_held sts) in
    numbered_by sts n olds cs (labels_before n olds ms)
    (joined_steps level steps cs) long ol ll order within different picked (search labelled_by)
    (λ p z l h. search (held_label, merged_stay)) (λ p l. search (arith, moved_by_old_places, falls_steps))

exact_numbered : (sts : List (ℕ × ℕ)) (n : ℕ) (ds js : List ℕ) → Numbered sts n ds js → ExactCuts ds sts js
exact_numbered sts n ds js f =
    let link : (p : ℕ) → 0 < p → p < n → linked ds sts p ≡ held sts p =
    search arith in
    record {
      same_length = f.same_length ∙ sym f.long;
      cuts = λ p z l.
          let pn : p < n = omega arith in (
            search arith,
            λ none same. (
                let i : suc (p - 1) ≡ p = omega arith in
                omega (
                  arith,
                  number_cut sts (p - 1) (ap (held sts) i ∙ sym (link p z pn) ∙ none),
                  ap (number_of sts) i,
                  f.apart (p - 1) p (omega arith) pn same,
                )),
          );
      reached = λ p l.
          let (q, qn, number, cluster) = f.of_block p (omega arith) in
          search (arith, held_in_block);
      least = search (arith, share_all);
    }

pub exact_spared : (level : BufferClusterLevel) → merges level ≡ true → (n : ℕ) (steps : List Step) (cs : List ℕ)
    → length cs ≡ n → FitSteps n steps → AllByRecursion (Permutes n) steps → SpareMerged n steps → AllDifferent cs
    → ExactCuts (pick (old_places n steps) cs) (all_merged steps) (joined_steps level steps cs)
exact_spared level m n steps cs long fits perm spare different =
    exact_numbered (all_merged steps) n (pick (old_places n steps) cs) (joined_steps level steps cs) (search numbered)
