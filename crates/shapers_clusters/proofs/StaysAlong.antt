-- What the steps of neighbouring stretches merge stays in one cluster.
use Rattle.std.proofs.Common.{ℕ, ◌+◌, ◌-◌, ◌<◌, ◌≤◌, ◌≡◌, inl, inr, ◌⊎◌, List, [], ◌∷◌, ◌++◌, map, get_or, ap, arith}
use Rattle.std.specs.List.{AllByRecursion, sum_by}
use Rattle.std.proofs.lemmas.List.{map-append}
use Rattle.std.proofs.lemmas.List.Sums.{sum_by-cons}
use Rattle.shapers_buffer.proofs.MappedLists.{all-append, all-mapped}
use Rattle.shapers_clusters.specs.Cuts.{EndWithin}
use Rattle.shapers_clusters.specs.Steps.{FitSteps, FitsStep, MovesMerged, SpareMerged, Spares, Step, shifted, steps_along, widened}
use Rattle.shapers_clusters.proofs.Widened.{widened_before, widened_inside, moves-widened}

-- one stretch
abbrev pub moved_by : ℕ → ℕ × ℕ → ℕ × ℕ
moved_by s st = (s + st.0, s + st.1)

spares_widened : (s e n : ℕ) (step : Step) → s ≤ e → e ≤ n → FitsStep (e - s) step → (st : ℕ × ℕ) → st.1 ≤ e - s
    → Spares (e - s) st step → Spares n (moved_by s st) (widened s e n step)
spares_widened s e n step l m fits st w (inr moves) = inr (moves-widened s e n step l m moves)
spares_widened s e n step l m fits st w (inl stays) = inl (λ p a b. search (arith, widened_inside))

spares_all : (s e n : ℕ) (steps : List Step) → s ≤ e → e ≤ n → FitSteps (e - s) steps → (st : ℕ × ℕ) → st.1 ≤ e - s
    → AllByRecursion (Spares (e - s) st) steps → AllByRecursion (Spares n (moved_by s st)) (map (widened s e n) steps)
spares_all s e n [] l m fits st w h = tt
spares_all s e n (step ∷ steps) l m fits st w h = search (spares_widened, spares_all s e n steps l m fits.1 st w h.1)

spares_each : (s e n : ℕ) (steps : List Step) → s ≤ e → e ≤ n → FitSteps (e - s) steps → (sts : List (ℕ × ℕ))
    → EndWithin (e - s) sts → AllByRecursion (λ st. AllByRecursion (Spares (e - s) st) steps) sts
    → AllByRecursion (λ st. AllByRecursion (Spares n st) (map (widened s e n) steps)) (shifted s sts)
spares_each s e n steps l m fits [] w h = tt
spares_each s e n steps l m fits (st ∷ sts) w h = search (spares_all, spares_each s e n steps l m fits sts w.1 h.1)

-- the steps of a syllable widened, and steps behind it that leave what is before them
abbrev StayBefore : ℕ → Step → Type 0
StayBefore t step = (p : ℕ) → p < t → get_or step.places p 0 ≡ p

all_stay : (n : ℕ) (st : ℕ × ℕ) (t : ℕ) → st.1 ≤ t → (more : List Step) → AllByRecursion (StayBefore t) more
    → AllByRecursion (Spares n st) more
all_stay n st t l [] h = tt
all_stay n st t l (step ∷ steps) h = search (arith, all_stay n st t l steps h.1)

too : (n t : ℕ) (steps more : List Step) → AllByRecursion (StayBefore t) more → (sts : List (ℕ × ℕ)) → EndWithin t sts
    → AllByRecursion (λ st. AllByRecursion (Spares n st) steps) sts
    → AllByRecursion (λ st. AllByRecursion (Spares n st) (steps ++ more)) sts
too n t steps more behind [] w h = tt
too n t steps more behind (st ∷ sts) w h = search (all-append, all_stay, too n t steps more behind sts w.1 h.1)

own_widened : (s e n : ℕ) (step : Step) → s ≤ e → e ≤ n → (step.merged_first ≡ []) ⊎ MovesMerged (e - s) step
    → ((widened s e n step).merged_first ≡ []) ⊎ MovesMerged n (widened s e n step)
own_widened s e n step l m (inl none) = inl (ap (shifted s) none)
own_widened s e n step l m (inr moves) = inr (moves-widened s e n step l m moves)

spare_widened : (s e n : ℕ) (steps more : List Step) → s ≤ e → e ≤ n → FitSteps (e - s) steps
    → SpareMerged (e - s) steps → AllByRecursion (StayBefore e) more → SpareMerged n more
    → SpareMerged n (map (widened s e n) steps ++ more)
spare_widened s e n [] more l m fits spare behind rest = rest
spare_widened s e n (step ∷ steps) more l m fits spare behind rest =
    let one = fits.0 in
    let sts = step.merged_first ++ step.merged_then in
    let ends = all-append (λ (st : ℕ × ℕ). st.1 ≤ e - s) step.merged_first step.merged_then one.first_within
    one.then_within in
    search (
      arith,
      own_widened s e n step l m spare.0,
      map-append (moved_by s) step.merged_first step.merged_then,
      too n e (map (widened s e n) steps) more behind (shifted s sts)
          (all-mapped (λ (st : ℕ × ℕ). st.1 ≤ e - s) (λ (st : ℕ × ℕ). st.1 ≤ e) (moved_by s) sts (λ st w. omega
          arith) ends) (spares_each s e n steps l m fits.1 sts ends spare.1),
      spare_widened s e n steps more l m fits.1 spare.2 behind rest,
    )

-- all of them
stay_widened : (t s e n : ℕ) (steps : List Step) → t ≤ s → AllByRecursion (StayBefore t) (map (widened s e n) steps)
stay_widened t s e n [] l = tt
stay_widened t s e n (step ∷ steps) l = search (arith, widened_before, stay_widened t s e n steps l)

stay_along : (t n s : ℕ) (pieces : List (ℕ × List Step)) → t ≤ s
    → AllByRecursion (StayBefore t) (steps_along n s pieces)
stay_along t n s [] l = tt
stay_along t n s (piece ∷ rest) l = search (all-append, stay_widened, stay_along t n (s + piece.0) rest (omega arith))

pub spare_along : (n s : ℕ) (pieces : List (ℕ × List Step)) → s + sum_by (λ piece. piece.0) pieces ≤ n
    → AllByRecursion (λ piece. FitSteps piece.0 piece.1) pieces
    → AllByRecursion (λ piece. SpareMerged piece.0 piece.1) pieces → SpareMerged n (steps_along n s pieces)
spare_along n s [] l fits spare = tt
spare_along n s (piece ∷ rest) l fits spare =
    let sum = sum_by-cons (λ piece. piece.0) piece rest in
    search (arith, spare_widened, stay_along, spare_along n (s + piece.0) rest (omega arith) fits.1 spare.1)
