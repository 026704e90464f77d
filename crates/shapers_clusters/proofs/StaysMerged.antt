-- Steps after which each stretch that one of them merged is in one cluster.
use Rattle.std.proofs.Common.{ℕ, ◌<◌, ◌≤◌, ◌≡◌, ◌⊎◌, true, inl, inr, List, [], ◌∷◌, ◌++◌, length, append-nil, get_or, sym, ◌∙◌, subst, arith}
use Rattle.std.specs.List.{AllByRecursion}
use Rattle.shapers_buffer.specs.declared.buffer.level.BufferClusterLevel.{BufferClusterLevel}
use Rattle.shapers_buffer.specs.Clusters.{merges}
use Rattle.shapers_buffer.specs.Places.{pick}
use Rattle.shapers_buffer.proofs.MappedLists.{all-append}
use Rattle.shapers_clusters.specs.Cuts.{EndWithin, OneAlong}
use Rattle.shapers_clusters.specs.ClusterMerges.{joined, joined_all}
use Rattle.shapers_clusters.specs.Labels.{MergedStay}
use Rattle.shapers_clusters.specs.Steps.{FitSteps, FitsStep, MovesMerged, SpareMerged, Spares, Step, all_merged, joined_step, joined_steps}
use Rattle.shapers_clusters.proofs.Moves.{joined-merged_steps, stepped}
use Rattle.shapers_clusters.proofs.Neighbours.{end_within_joined, joined-shares, joined_all-share, length-joined}
use Rattle.shapers_clusters.proofs.Picks.{get_or-pick, length-pick}

-- merges
keep_joined : (level : BufferClusterLevel) (sts : List (ℕ × ℕ)) (cs : List ℕ) → EndWithin (length cs) sts → (st : ℕ × ℕ)
    → st.1 ≤ length cs → OneAlong cs st → OneAlong (joined_all level sts cs) st
keep_joined level sts cs ends st l one p q pl ph ql qh =
    sym (joined_all-share level sts cs ends p q (omega arith) (omega arith)
    (λ r a b. one r p (omega arith) (omega arith) pl ph) q (omega arith) (omega arith))

own_joined : (level : BufferClusterLevel) → merges level ≡ true → (sts : List (ℕ × ℕ)) (cs : List ℕ)
    → EndWithin (length cs) sts → AllByRecursion (OneAlong (joined_all level sts cs)) sts
own_joined level m [] cs ends = tt
own_joined level m (st ∷ sts) cs ends =
    let js = joined level st.0 st.1 cs in
    let rest = end_within_joined level st.0 st.1 cs sts ends.0 ends.1 in
    let n = length-joined level st.0 st.1 cs ends.0 in
    search (
      keep_joined level sts js rest st (omega arith)
          (λ p q pl ph ql qh. joined-shares level st.0 st.1 cs ends.0 m p q pl ph ql qh),
      own_joined level m sts js rest,
    )

-- one step
moved_joined : (level : BufferClusterLevel) → merges level ≡ true → (n : ℕ) (step : Step) (cs : List ℕ) → length cs ≡ n
    → MovesMerged n step → joined_step level step cs ≡ joined_all level step.merged_first cs
moved_joined level m n step cs long moves = cc (
  joined-merged_steps level m (step ∷ []) cs (subst (λ k. MovesMerged k step) (sym long) moves, tt),
  append-nil step.merged_first,
)

keep_step : (level : BufferClusterLevel) → merges level ≡ true → (n : ℕ) (step : Step) (cs : List ℕ) → length cs ≡ n
    → FitsStep n step → (st : ℕ × ℕ) → st.1 ≤ n → Spares n st step → OneAlong cs st
    → OneAlong (joined_step level step cs) st
keep_step level m n step cs long fits st l (inr moves) one = search (moved_joined level m n step cs long moves, keep_joined level step.merged_first cs (stepped n level step cs long fits).first_within st (omega arith) one)
keep_step level m n step cs long fits st l (inl stays) one =
    let s = stepped n level step cs long fits in
    let js = joined_all level step.merged_first cs in
    let ks = pick step.places js in
    let at : (p : ℕ) → st.0 ≤ p → p < st.1 → get_or ks p 0 ≡ get_or js p 0 =
    λ p a b. cc (get_or-pick 0 step.places js s.within p (omega arith), stays p a b) in
    let kn : length ks ≡ n = search length-pick in
    keep_joined level step.merged_then ks s.then_within st (omega arith) (λ p q pl ph ql qh. at p pl ph
    ∙ (keep_joined level step.merged_first cs s.first_within st (omega arith) one) p q pl ph ql qh ∙ sym (at q ql qh))

own_step : (level : BufferClusterLevel) → merges level ≡ true → (n : ℕ) (step : Step) (cs : List ℕ) → length cs ≡ n
    → FitsStep n step → (step.merged_first ≡ []) ⊎ MovesMerged n step
    → AllByRecursion (OneAlong (joined_step level step cs)) (step.merged_first ++ step.merged_then)
own_step level m n step cs long fits (inl none) =
    let s = stepped n level step cs long fits in
    let js = joined_all level step.merged_first cs in
    let then = own_joined level m step.merged_then (pick step.places js) s.then_within in
    subst (λ sts. AllByRecursion (OneAlong (joined_step level step cs)) (sts ++ step.merged_then)) (sym none) then
own_step level m n step cs long fits (inr moves) =
    let first : AllByRecursion (OneAlong (joined_step level step cs)) step.merged_first =
    subst (λ ks. AllByRecursion (OneAlong ks) step.merged_first) (sym (moved_joined level m n step cs long moves))
    (own_joined level m step.merged_first cs (stepped n level step cs long fits).first_within) in
    search (arith, append-nil)

-- all of them
keep_steps : (level : BufferClusterLevel) → merges level ≡ true → (n : ℕ) (steps : List Step) (cs : List ℕ)
    → length cs ≡ n → FitSteps n steps → (st : ℕ × ℕ) → st.1 ≤ n → AllByRecursion (Spares n st) steps → OneAlong cs st
    → OneAlong (joined_steps level steps cs) st
keep_steps level m n [] cs long fits st l spares one = one
keep_steps level m n (step ∷ steps) cs long fits st l spares one =
    keep_steps level m n steps (joined_step level step cs)
    (stepped n level step cs long fits.0).as_many fits.1 st l spares.1 (search keep_step)

keep_stretches : (level : BufferClusterLevel) → merges level ≡ true → (n : ℕ) (steps : List Step) (cs : List ℕ)
    → length cs ≡ n → FitSteps n steps → (sts : List (ℕ × ℕ)) → EndWithin n sts
    → AllByRecursion (λ st. AllByRecursion (Spares n st) steps) sts → AllByRecursion (OneAlong cs) sts
    → AllByRecursion (OneAlong (joined_steps level steps cs)) sts
keep_stretches level m n steps cs long fits [] l spares h = tt
keep_stretches level m n steps cs long fits (st ∷ sts) l spares h =
    search (keep_steps, keep_stretches level m n steps cs long fits sts l.1 spares.1 h.1)

pub merged_stay : (level : BufferClusterLevel) → merges level ≡ true → (n : ℕ) (steps : List Step) (cs : List ℕ)
    → length cs ≡ n → FitSteps n steps → SpareMerged n steps → MergedStay level steps cs
merged_stay level m n [] cs long fits spare = tt
merged_stay level m n (step ∷ steps) cs long fits spare =
    let s = stepped n level step cs long fits.0 in
    let js = joined_step level step cs in
    let one = fits.0 in
    let ends = all-append (λ (st : ℕ × ℕ). st.1 ≤ n) step.merged_first step.merged_then one.first_within
    one.then_within in
    all-append (OneAlong (joined_steps level steps js)) (step.merged_first ++ step.merged_then) (all_merged steps)
    (search (keep_stretches, own_step)) (merged_stay level m n steps js s.as_many fits.1 spare.2)

-- steps that move inside what they merge may follow
spared : (n : ℕ) (more : List Step) → AllByRecursion (MovesMerged n) more → (st : ℕ × ℕ)
    → AllByRecursion (Spares n st) more
spared n [] h st = tt
spared n (step ∷ steps) h st = (inr h.0, spared n steps h.1 st)

spared_too : (n : ℕ) (steps more : List Step) → AllByRecursion (MovesMerged n) more → (sts : List (ℕ × ℕ))
    → AllByRecursion (λ st. AllByRecursion (Spares n st) steps) sts
    → AllByRecursion (λ st. AllByRecursion (Spares n st) (steps ++ more)) sts
spared_too n steps more h [] spares = tt
spared_too n steps more h (st ∷ sts) spares = search (all-append, spared, spared_too n steps more h sts spares.1)

spared_by : (n : ℕ) (more : List Step) → AllByRecursion (MovesMerged n) more → (sts : List (ℕ × ℕ))
    → AllByRecursion (λ st. AllByRecursion (Spares n st) more) sts
spared_by n more h [] = tt
spared_by n more h (st ∷ sts) = (spared n more h st, spared_by n more h sts)

pub spare_moves : (n : ℕ) (more : List Step) → AllByRecursion (MovesMerged n) more → SpareMerged n more
spare_moves n [] h = tt
spare_moves n (step ∷ steps) h = search (arith, spared_by, spare_moves n steps h.1)

pub spare_then : (n : ℕ) (steps more : List Step) → SpareMerged n steps → AllByRecursion (MovesMerged n) more
    → SpareMerged n (steps ++ more)
spare_then n [] more spare h = spare_moves n more h
spare_then n (step ∷ steps) more spare h = search (arith, spared_too, spare_then n steps more spare.2 h)
