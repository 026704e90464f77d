-- What steps elsewhere leave of the clusters of a stretch.
use Rattle.std.proofs.Common.{ℕ, suc, ◌+◌, ◌-◌, ◌<◌, ◌≤◌, ◌≡◌, ◌⊎◌, inl, inr, nat_lt, not, ◌&&◌, if◌then◌else◌, List, [], ◌∷◌, length, map, get_or, refl, sym, ◌∙◌, ap, subst, arith}
use Rattle.std.specs.List.{AllByRecursion, range_with_len, sum_by}
use Rattle.std.proofs.lemmas.Bool.{cases_lt}
use Rattle.std.proofs.lemmas.List.{ext_get_or, get_or-map, length-map}
use Rattle.std.proofs.lemmas.List.FromFn.{get_or-range_with_len, length-range_with_len}
use Rattle.std.proofs.lemmas.List.Sums.{sum_by-cons}
use Rattle.shapers_buffer.specs.declared.buffer.level.BufferClusterLevel.{BufferClusterLevel}
use Rattle.shapers_buffer.specs.Places.{pick}
use Rattle.shapers_buffer.proofs.MappedLists.{all-append}
use Rattle.shapers_clusters.specs.Cuts.{EndWithin, OneAlong, StandsApart}
use Rattle.shapers_clusters.specs.ClusterMerges.{joined_all}
use Rattle.shapers_clusters.specs.Labels.{OneLabelEach}
use Rattle.shapers_clusters.specs.Steps.{FitSteps, FitsStep, Step, joined_step, joined_steps, moved_on, old_places, shifted, steps_along, widened}
use Rattle.shapers_clusters.proofs.Labels.{Labelled, joined_steps-labels}
use Rattle.shapers_clusters.proofs.Moves.{all-joined_steps, moved_by_old_places, stepped}
use Rattle.shapers_clusters.proofs.Neighbours.{joined_all-neighbours}
use Rattle.shapers_clusters.proofs.Picks.{get_or-pick, length-pick, within_at}
use Rattle.shapers_clusters.proofs.Widened.{widened_before, widened_behind, fits-widened, widened_inside}

-- a place outside s..e; a stretch that holds no place of it
abbrev pub Outside : ℕ → ℕ → ℕ → Type 0
Outside s e p = (p < s) ⊎ (e ≤ p)

abbrev pub Beside : ℕ → ℕ → ℕ × ℕ → Type 0
Beside s e st = (st.1 ≤ s) ⊎ (e ≤ st.0)

-- a step of n places that merges and moves outside the stretch alone
pub record Elsewhere (s e n : ℕ) (step : Step) : Type 0 where
  pub fits : FitsStep n step
  pub first : AllByRecursion (Beside s e) step.merged_first
  pub last : AllByRecursion (Beside s e) step.merged_then
  pub stays : (p : ℕ) → s ≤ p → p < e → get_or step.places p 0 ≡ p
  pub outside : (p : ℕ) → p < n → Outside s e p → Outside s e (get_or step.places p 0)

fits_elsewhere : (s e n : ℕ) (steps : List Step) → AllByRecursion (Elsewhere s e n) steps → FitSteps n steps
fits_elsewhere s e n [] h = tt
fits_elsewhere s e n (step ∷ steps) h = search (fits_elsewhere s e n steps h.1)

-- neighbours in it that share a cluster still do; clusters that are its own stay, and stay its own
pub record Leaves (s e : ℕ) (cs js : List ℕ) : Type 0 where
  pub same_length : length js ≡ length cs
  pub shared : (p : ℕ) → s ≤ p → suc p < e → get_or cs p 0 ≡ get_or cs (suc p) 0 → get_or js p 0 ≡ get_or js (suc p) 0
  pub own : StandsApart s e cs → (p : ℕ) → s ≤ p → p < e → get_or js p 0 ≡ get_or cs p 0
  pub apart : StandsApart s e cs → StandsApart s e js

-- a place of the stretch is marked by its cluster, all others by nothing
mark : ℕ → ℕ → List ℕ → ℕ → ℕ
mark s e cs p = if not (nat_lt p s) && nat_lt p e then suc (get_or cs p 0) else 0

mark_inside : (s e : ℕ) (cs : List ℕ) (p : ℕ) → s ≤ p → p < e → mark s e cs p ≡ suc (get_or cs p 0)
unfolding mark
mark_inside = grind arith

mark_outside : (s e : ℕ) (cs : List ℕ) (p : ℕ) → Outside s e p → mark s e cs p ≡ 0
unfolding mark
mark_outside s e cs p (inl a) = grind arith
mark_outside s e cs p (inr a) = grind arith

marks : ℕ → ℕ → List ℕ → List ℕ
marks s e cs = map (mark s e cs) (range_with_len 0 (length cs))

length-marks : (s e : ℕ) (cs : List ℕ) → length (marks s e cs) ≡ length cs
unfolding marks
length-marks = search (length-map, length-range_with_len)

mark_at : (s e : ℕ) (cs : List ℕ) (p : ℕ) → p < length cs → get_or (marks s e cs) p 0 ≡ mark s e cs p
unfolding marks
mark_at s e cs p l = search (
  arith,
  get_or-map (mark s e cs) (range_with_len 0 (length cs)) p 0 0 (omega (arith, length-range_with_len 0 (length cs))),
  get_or-range_with_len 0 (length cs) p 0 l,
)

inside_or_not : (s e p : ℕ) → ((s ≤ p) × (p < e)) ⊎ Outside s e p
inside_or_not s e p = elim (cases_lt p s) [
  | inl a ↦ inr (inl a)
  | inr a ↦ elim (cases_lt p e) [ inl b ↦ inl (a, b) | inr b ↦ inr (inr b) ]
]

-- stretches beside it have no mark, and no mark moves
no_mark : (s e : ℕ) (cs : List ℕ) (sts : List (ℕ × ℕ)) → EndWithin (length cs) sts → AllByRecursion (Beside s e) sts
    → AllByRecursion (OneAlong (marks s e cs)) sts
no_mark s e cs [] ends beside = tt
no_mark s e cs (st ∷ sts) ends beside =
    let none : (p : ℕ) → st.0 ≤ p → p < st.1 → get_or (marks s e cs) p 0 ≡ 0 =
    search (arith, mark_at, mark_outside) in
    search (arith, no_mark s e cs sts ends.1 beside.1)

marks_stay : (s e : ℕ) (cs : List ℕ) (step : Step) → Elsewhere s e (length cs) step → pick step.places (marks s e cs)
    ≡ marks s e cs
marks_stay s e cs step h =
    let ms = marks s e cs in
    let n = length-marks s e cs in
    let fits = h.fits in
    let within = subst (λ k. AllByRecursion (λ p. p < k) step.places) (sym n) fits.within in
    let long = length-pick step.places ms within ∙ fits.as_many ∙ sym n in
    cc (ext_get_or 0 (pick step.places ms) ms long (λ p l. let pl : p < length cs = omega arith in
    let q = get_or step.places p 0 in
    get_or-pick 0 step.places ms within p (omega arith)
    ∙ elim (inside_or_not s e p) [
      | inl a ↦ ap (λ k. get_or ms k 0) (h.stays p a.0 a.1)
      | inr a ↦ mark_at s e cs q (within_at (length cs)
          step.places fits.within p (omega arith)) ∙ mark_outside s e cs q (h.outside p pl a) ∙ sym (mark_at s e cs p pl ∙
          mark_outside s e cs p a)
    ]))

marked_each : (s e : ℕ) (cs : List ℕ) (steps : List Step) → AllByRecursion (Elsewhere s e (length cs)) steps
    → OneLabelEach steps (marks s e cs)
marked_each s e cs [] h = tt
marked_each s e cs (step ∷ steps) h = search (no_mark, marks_stay, marked_each s e cs steps h.1)

marks_stay_all : (s e : ℕ) (cs : List ℕ) (steps : List Step) → AllByRecursion (Elsewhere s e (length cs)) steps
    → moved_on steps (marks s e cs) ≡ marks s e cs
marks_stay_all s e cs [] h = refl
marks_stay_all s e cs (step ∷ steps) h = search (marks_stay, marks_stay_all s e cs steps h.1)

-- neighbours
shared_step : (s e : ℕ) (level : BufferClusterLevel) (n : ℕ) (step : Step) (cs : List ℕ) → length cs ≡ n → e ≤ n
    → Elsewhere s e n step → (p : ℕ) → s ≤ p → suc p < e → get_or cs p 0 ≡ get_or cs (suc p) 0
    → get_or (joined_step level step cs) p 0 ≡ get_or (joined_step level step cs) (suc p) 0
shared_step s e level n step cs long end h p a b same =
    let f = stepped n level step cs long h.fits in
    let js = joined_all level step.merged_first cs in
    let at : (q : ℕ) → s ≤ q → q < e → get_or (pick step.places js) q 0 ≡ get_or js q 0 = λ q c d.
    cc (get_or-pick 0 step.places js f.within q (omega arith), h.stays q c d) in
    cc (joined_all-neighbours level step.merged_then (pick step.places js) f.then_within p (omega (
      arith,
      length-pick step.places js f.within,
    )) (at p a (omega arith) ∙ joined_all-neighbours level step.merged_first cs f.first_within p (omega arith) same
    ∙ sym (at (suc p) (omega arith) b)))

shared_steps : (s e : ℕ) (level : BufferClusterLevel) (n : ℕ) (steps : List Step) (cs : List ℕ) → length cs ≡ n → e ≤ n
    → AllByRecursion (Elsewhere s e n) steps → (p : ℕ) → s ≤ p → suc p < e → get_or cs p 0 ≡ get_or cs (suc p) 0
    → get_or (joined_steps level steps cs) p 0 ≡ get_or (joined_steps level steps cs) (suc p) 0
shared_steps s e level n [] cs long end h p a b same = same
shared_steps s e level n (step ∷ steps) cs long end h p a b same =
    let f = stepped n level step cs long h.0.fits in
    shared_steps s e level n steps (joined_step level step cs) f.as_many end h.1 p a b (search shared_step)

-- all of it
leaves_apart : (s e : ℕ) (level : BufferClusterLevel) (steps : List Step) (cs : List ℕ) → e ≤ length cs
    → AllByRecursion (Elsewhere s e (length cs)) steps → StandsApart s e cs
    → (length (joined_steps level steps cs) ≡ length cs)
    × ((p : ℕ) → s ≤ p → p < e → get_or (joined_steps level steps cs) p 0 ≡ get_or cs p 0)
    × StandsApart s e (joined_steps level steps cs)
leaves_apart s e level steps cs end h apart =
    let n = length cs in
    let js = joined_steps level steps cs in
    let ms = marks s e cs in
    let stay : pick (old_places n steps) ms ≡ ms =
    search (arith, moved_by_old_places, length-marks, marks_stay_all) in
    let done : Labelled cs ms js ms =
    subst (Labelled cs ms js) stay (joined_steps-labels level steps cs ms
    (fits_elsewhere s e n steps h) (
    search (arith, length-marks, mark_at, mark_inside, mark_outside)) (marked_each s e cs steps h)) in
    let jl : length js ≡ n = search (arith, length-marks) in (
      jl,
      λ p a b.
          let (q, ql, cluster, label) = done.of_old p (omega arith) in
          let here = mark_at s e cs p (omega arith) ∙ mark_inside s e cs p a b in
          let there = mark_at s e cs q ql in
          elim (inside_or_not s e q) [
            | inl c ↦ (let is = mark_inside s e cs q c.0 c.1 in cluster ∙ omega (arith, here, there, is, label))
            | inr c ↦ (let is = mark_outside s e cs q c in absurd (omega (arith, here, there, is, label)))
          ],
      λ i j a b jn out same.
          let i_is = mark_at s e cs i (omega arith) ∙ mark_inside s e cs i a b in
          let j_is = mark_at s e cs j (omega arith) ∙ mark_outside s e cs j out in
          omega (arith, i_is, j_is, done.respected.agree i j (omega arith) jn same),
    )

pub leaves_elsewhere : (s e : ℕ) (level : BufferClusterLevel) (n : ℕ) (steps : List Step) (cs : List ℕ) → length cs ≡ n
    → e ≤ n → AllByRecursion (Elsewhere s e n) steps → Leaves s e cs (joined_steps level steps cs)
leaves_elsewhere s e level n steps cs long end h =
    let lone = leaves_apart s e level steps cs (omega arith)
    (subst (λ k. AllByRecursion (Elsewhere s e k) steps) (sym long) h) in
    record {
      same_length =
          (all-joined_steps (λ _. Unit {0}) level n steps cs long (fits_elsewhere s e n steps h) (λ _ _ _. tt)).0
          ∙ sym long;
      shared = search shared_steps;
      own = λ apart. (lone apart).1;
      apart = λ apart. (lone apart).2;
    }

-- steps over other stretches are elsewhere
beside_shifted : (s e a b : ℕ) (sts : List (ℕ × ℕ)) → a ≤ b → EndWithin (b - a) sts → (b ≤ s) ⊎ (e ≤ a)
    → AllByRecursion (Beside s e) (shifted a sts)
beside_shifted s e a b [] l ends out = tt
beside_shifted s e a b (st ∷ sts) l ends out = search (arith, beside_shifted s e a b sts l ends.1 out)

widened_elsewhere : (s e a b n : ℕ) (step : Step) → a ≤ b → b ≤ n → e ≤ n → FitsStep (b - a) step → (b ≤ s) ⊎ (e ≤ a)
    → Elsewhere s e n (widened a b n step)
widened_elsewhere s e a b n step l m end fits out = record {
  fits = fits-widened a b n step l m fits;
  first = search beside_shifted;
  last = search beside_shifted;
  stays = search (arith, widened_behind, widened_before);
  outside = λ p pn x. elim (cases_lt p a) [
    | inl c ↦ search widened_before
    | inr c ↦ elim (cases_lt p b) [
      | inl d ↦ (
          let at = widened_inside a b n step fits p c d in
          let within = within_at (b - a) step.places fits.within (p - a) (omega arith) in
          elim out [ inl f ↦ inl (omega arith) | inr f ↦ inr (omega arith) ])
      | inr d ↦ search widened_behind
    ]
  ];
}

all_elsewhere : (s e a b n : ℕ) (steps : List Step) → a ≤ b → b ≤ n → e ≤ n → FitSteps (b - a) steps → (b ≤ s) ⊎ (e ≤ a)
    → AllByRecursion (Elsewhere s e n) (map (widened a b n) steps)
all_elsewhere s e a b n [] l m end fits out = tt
all_elsewhere s e a b n (step ∷ steps) l m end fits out =
    search (widened_elsewhere, all_elsewhere s e a b n steps l m end fits.1 out)

pub along_elsewhere : (s e n a : ℕ) (pieces : List (ℕ × List Step)) → a + sum_by (λ piece. piece.0) pieces ≤ n → e ≤ n
    → AllByRecursion (λ piece. FitSteps piece.0 piece.1) pieces → (a + sum_by (λ piece. piece.0) pieces ≤ s) ⊎ (e ≤ a)
    → AllByRecursion (Elsewhere s e n) (steps_along n a pieces)
along_elsewhere s e n a [] l end fits out = tt
along_elsewhere s e n a (piece ∷ rest) l end fits out =
    let sum = sum_by-cons (λ piece. piece.0) piece rest in
    let b = a + piece.0 in
    search (all-append (Elsewhere s e n) (map (widened a b n) piece.1) (steps_along n b rest)
    (all_elsewhere s e a b n piece.1 (omega arith) (omega arith) end (search arith) (elim out [
      | inl c ↦ inl (omega arith)
      | inr c ↦ inr c
    ]))
    (along_elsewhere s e n b rest (omega arith) end fits.1 (elim out [
      | inl c ↦ inl (omega arith)
      | inr c ↦
          inr (omega arith)
    ])))
