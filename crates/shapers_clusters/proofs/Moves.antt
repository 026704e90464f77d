-- What steps do: to the order view, to each glyph's cluster and flags, and to the list of clusters.
use Rattle.std.proofs.Common.{ℕ, ◌<◌, ◌≤◌, ◌≡◌, true, false, List, [], ◌∷◌, length, get_or, refl, sym, ◌∙◌, ap, subst, arith, append_assoc, ◌&&◌, nat_lt, ◌++◌}
use Rattle.std.specs.List.{All, AllByRecursion, AllZip, fold, range_with_len}
use Rattle.std.proofs.lemmas.List.{length-map, ext_get_or}
use Rattle.std.proofs.lemmas.List.Elements.{All-from_get_or, length_all_zip}
use Rattle.std.proofs.lemmas.List.Folds.{list_any-append, list_any_at}
use Rattle.std.proofs.lemmas.List.FromFn.{length-range_with_len, get_or-range_with_len}
use Rattle.shapers_buffer.specs.Glyphs.{Glyphs}
use Rattle.shapers_buffer.specs.declared.buffer.level.BufferClusterLevel.{BufferClusterLevel}
use Rattle.shapers_buffer.specs.Glyph.{clusters, order_view, plain}
use Rattle.shapers_buffer.specs.Clusters.{merge, merge_all, merges}
use Rattle.shapers_clusters.specs.ClusterMerges.{joined, joined_all}
use Rattle.shapers_clusters.proofs.ClusterMerges.{clusters-merge, clusters-of_clusters}
use Rattle.shapers_clusters.proofs.Merging.{order_view-merge_all, length-merge_all}
use Rattle.shapers_clusters.specs.Cuts.{EndWithin, held, ShareCluster}
use Rattle.shapers_clusters.proofs.Neighbours.{length-joined_all, joined_all-linked, joined_all-reached, share_all}
use Rattle.std.proofs.lemmas.List.Sums.{fold-append}
use Rattle.shapers_buffer.specs.Places.{pick}
use Rattle.shapers_clusters.specs.Steps.{Step, after_step, after_steps, joined_step, joined_steps, moved_on, old_places, FitsStep, FitSteps, HeldBetween, MovesMerged, all_first}
use Rattle.shapers_clusters.proofs.Picks.{length-pick, get_or-pick, pick-map, AllZip-pick, pick-all, pick-pick, within_picked, within_range, within_at}
use Rattle.shapers_clusters.specs.Flags.{FallsTo}
use Rattle.shapers_clusters.proofs.Falls.{all_on, all_same, merge_all-falls}

-- What holds of a list and what some steps make of it, if each step keeps it: the list moves as the steps do.
pub followed : {X S : Type 0} (R : List X → S → Type 0) (run : S → Step → S) (ok : Step → Type 0)
    → ((step : Step) (xs : List X) (s : S) → ok step → R xs s → R (pick step.places xs) (run s step))
    → (old : List X) (steps : List Step) (olds : List ℕ) (s : S) → AllByRecursion ok steps
    → AllByRecursion (λ p. p < length old) olds → R (pick olds old) s
    → R (pick (moved_on steps olds) old) (fold run s steps)
followed R run ok keeps old [] olds s f w h = h
followed {X} R run ok keeps old (step ∷ steps) olds s f w h =
    followed R run ok keeps old steps (pick step.places olds) (run s step) f.1
    (within_picked (length old) step.places olds w)
    (subst (λ xs. R xs (run s step)) (pick-pick step.places olds old w) (keeps step (pick olds old) s f.0 h))

pub followed_all : {X S : Type 0} (R : List X → S → Type 0) (run : S → Step → S) (ok : Step → Type 0)
    → ((step : Step) (xs : List X) (s : S) → ok step → R xs s → R (pick step.places xs) (run s step))
    → (n : ℕ) (old : List X) (steps : List Step) (s : S) → length old ≡ n → AllByRecursion ok steps → R old s
    → R (pick (old_places n steps) old) (fold run s steps)
followed_all {X} R run ok keeps n old steps s e f h =
    followed R run ok keeps old steps (range_with_len 0 n) s f (within_range 0 n (length old) (omega arith))
    (subst (λ xs. R xs s) (sym (pick-all n old e)) h)

-- what holds of every list, one after another
kept : {S : Type 0} (P : S → Type 0) (run : S → Step → S) (ok : Step → Type 0)
    → ((step : Step) (s : S) → ok step → P s → P (run s step)) → (steps : List Step) (s : S) → AllByRecursion ok steps
    → P s → P (fold run s steps)
kept P run ok keeps [] s f h = h
kept P run ok keeps (step ∷ steps) s f h = kept P run ok keeps steps (run s step) f.1 (keeps step s f.0 h)

pub clusters-merge_all : (level : BufferClusterLevel) (sts : List (ℕ × ℕ)) (gs : Glyphs)
    → clusters (merge_all level sts gs) ≡ joined_all level sts (clusters gs)
clusters-merge_all level [] gs = refl
clusters-merge_all level (st ∷ sts) gs = cc (clusters-merge_all level sts _, clusters-merge level st.0 st.1 gs)

clusters-after_step : (level : BufferClusterLevel) (step : Step) (gs : Glyphs)
    → clusters (after_step level step gs) ≡ joined_step level step (clusters gs)
clusters-after_step level step gs =
    clusters-merge_all level step.merged_then _
    ∙ ap (joined_all level step.merged_then) (sym (pick-map (λ g. g.cluster) step.places _)
    ∙ ap (pick step.places) (clusters-merge_all level step.merged_first gs))

-- the clusters of the glyphs after the steps are those that the steps make of the clusters
pub clusters-after_steps : (level : BufferClusterLevel) (steps : List Step) (gs : Glyphs)
    → clusters (after_steps level steps gs) ≡ joined_steps level steps (clusters gs)
clusters-after_steps level [] gs = refl
clusters-after_steps level (step ∷ steps) gs =
    search (clusters-after_step, clusters-after_steps level steps (after_step level step gs))

-- the order view after the steps: what stood at the old places
order_view-after_step : (level : BufferClusterLevel) (step : Step) (gs : Glyphs)
    → order_view (after_step level step gs) ≡ pick step.places (order_view gs)
order_view-after_step level step gs = cc (
  order_view-merge_all level step.merged_then _,
  pick-map plain step.places _,
  order_view-merge_all level step.merged_first gs,
)

any_steps : (steps : List Step) → AllByRecursion (λ _. Unit {0}) steps
any_steps [] = tt
any_steps (step ∷ steps) = (tt, any_steps steps)

pub order_view-after_steps : (level : BufferClusterLevel) (steps : List Step) (gs : Glyphs)
    → order_view (after_steps level steps gs) ≡ pick (old_places (length gs) steps) (order_view gs)
order_view-after_steps level steps gs =
    followed_all (λ xs gs. order_view gs ≡ xs) (λ gs step. after_step level step gs) (λ _. Unit {0})
    (λ step xs gs _ e. search (arith, order_view-after_step)) (length gs) (order_view gs) steps gs
    (length-map gs plain) (any_steps steps) refl

-- each glyph falls to what its place in the end has
falls-after_step : (level : BufferClusterLevel) (step : Step) (gs : Glyphs) → FitsStep (length gs) step
    → AllZip FallsTo (pick step.places gs) (after_step level step gs)
falls-after_step level step gs f =
    let ms = merge_all level step.merged_first gs in
    let n : length ms ≡ length gs = search length-merge_all in
    let k = length-pick step.places ms (subst (λ n. AllByRecursion (λ p. p < n) step.places) (sym n) f.within)
    ∙ f.as_many in
    all_on (pick step.places gs) (pick step.places ms) (after_step level step gs)
    (search (AllZip-pick, merge_all-falls)) (merge_all-falls level step.merged_then (pick step.places ms) (subst
    (λ n. EndWithin n step.merged_then) (sym k) f.then_within))

-- as many glyphs, each fallen from its own
abbrev FallenFrom : ℕ → Glyphs → Glyphs → Type 0
FallenFrom n xs gs = (length gs ≡ n) × AllZip FallsTo xs gs

pub falls-after_steps : (level : BufferClusterLevel) (steps : List Step) (gs : Glyphs)
    → FitSteps (length gs) steps → (length (after_steps level steps gs) ≡ length gs)
    × AllZip FallsTo (pick (old_places (length gs) steps) gs) (after_steps level steps gs)
falls-after_steps level steps gs f =
    let n = length gs in
    let P : Step → ℕ → Type 0 = λ step n. FitsStep n step in
    followed_all (FallenFrom (length gs)) (λ gs step. after_step level step gs) (FitsStep (length gs))
    (λ step xs ys g h.
    let one = falls-after_step level step ys (subst (P step) (sym h.0) g) in (
      sym (length_all_zip FallsTo (pick step.places ys) (after_step level step ys) one)
          ∙ length-pick step.places ys (subst
          (λ n. AllByRecursion (λ p. p < n) step.places) (sym h.0) g.within) ∙ g.as_many,
      all_on (pick step.places xs) (pick step.places ys) (after_step level step ys) (search AllZip-pick) one,
    )) (length gs) gs steps gs refl f (refl, all_same gs)

-- where nothing merges, glyphs only move
pub merge-unmerged : (level : BufferClusterLevel) → merges level ≡ false → (s e : ℕ) (gs : Glyphs)
    → merge level s e gs ≡ gs
merge-unmerged level m s e gs = cc

pub merge_all-unmerged : (level : BufferClusterLevel) → merges level ≡ false
    → (sts : List (ℕ × ℕ)) (gs : Glyphs) → merge_all level sts gs ≡ gs
merge_all-unmerged level m [] gs = refl
merge_all-unmerged level m (st ∷ sts) gs = search (arith, merge_all-unmerged level m sts gs)

pub joined_all-unmerged : (level : BufferClusterLevel) → merges level ≡ false → (sts : List (ℕ × ℕ)) (cs : List ℕ)
    → joined_all level sts cs ≡ cs
joined_all-unmerged level m [] cs = refl
joined_all-unmerged level m (st ∷ sts) cs = search (arith, clusters-of_clusters, joined_all-unmerged level m sts cs)

pub after_steps-unmerged : (level : BufferClusterLevel) → merges level ≡ false → (steps : List Step) (gs : Glyphs)
    → after_steps level steps gs ≡ pick (old_places (length gs) steps) gs
after_steps-unmerged level m steps gs =
    followed_all (λ xs gs. gs ≡ xs) (λ gs step. after_step level step gs) (λ _. Unit {0})
    (λ step xs gs _ e. search (arith, merge_all-unmerged)) (length gs) gs steps gs refl (any_steps steps) refl

pub joined_steps-unmerged : (level : BufferClusterLevel) → merges level ≡ false → (steps : List Step) (cs : List ℕ)
    → joined_steps level steps cs ≡ pick (old_places (length cs) steps) cs
joined_steps-unmerged level m steps cs =
    followed_all (λ xs cs. cs ≡ xs) (λ cs step. joined_step level step cs) (λ _. Unit {0})
    (λ step xs cs _ e. search (arith, joined_all-unmerged)) (length cs) cs steps cs refl (any_steps steps) refl

-- moves between places that share a cluster leave the list of clusters as it is
pub clusters_stay : (cs : List ℕ) (places : List ℕ) → length places ≡ length cs
    → AllByRecursion (λ p. p < length cs) places
    → ((p : ℕ) → p < length cs → get_or cs (get_or places p 0) 0 ≡ get_or cs p 0) → pick places cs ≡ cs
clusters_stay cs places n w h =
    let k = length-pick places cs w ∙ n in ext_get_or 0 (pick places cs) cs k (λ i l. search (arith, get_or-pick))

-- places that the stretches hold together share a cluster once these are merged
pub held_share : (level : BufferClusterLevel) → merges level ≡ true → (sts : List (ℕ × ℕ)) (cs : List ℕ)
    → EndWithin (length cs) sts → (p q : ℕ) → p < length cs → q < length cs → HeldBetween sts p q
    → ShareCluster (joined_all level sts cs) p q
held_share = search (arith, share_all, joined_all-linked)

-- a step that moves only inside what it merged first joins clusters, and no more
joined-merged_step : (level : BufferClusterLevel) → merges level ≡ true → (step : Step) (cs : List ℕ)
    → MovesMerged (length cs) step → joined_step level step cs ≡ joined_all level step.merged_first cs
joined-merged_step level m step cs f =
    let e = f.fits.first_within in
    let k = length-joined_all level step.merged_first cs e in
    cc (clusters_stay (joined_all level step.merged_first cs) step.places (omega arith)
    (subst (λ n. AllByRecursion (λ p. p < n) step.places) (sym k) f.fits.within)
    (λ p l. held_share level m step.merged_first cs e p (get_or step.places p 0) (omega arith) (within_at
    (length cs) step.places f.fits.within p (omega arith)) (f.inside p (omega arith)) (get_or step.places p 0)
    (omega arith) (omega arith)))

joined_all-append : (level : BufferClusterLevel) (xs ys : List (ℕ × ℕ)) (cs : List ℕ) → joined_all level (xs ++ ys) cs
    ≡ joined_all level ys (joined_all level xs cs)
joined_all-append level [] ys cs = refl
joined_all-append level (x ∷ xs) ys cs = joined_all-append level xs ys (joined level x.0 x.1 cs)

pub joined-merged_steps : (level : BufferClusterLevel) → merges level ≡ true → (steps : List Step) (cs : List ℕ)
    → AllByRecursion (MovesMerged (length cs)) steps
    → joined_steps level steps cs ≡ joined_all level (all_first steps) cs
joined-merged_steps level m [] cs f = refl
joined-merged_steps level m (step ∷ steps) cs f =
    let n = length-joined_all level step.merged_first cs f.0.fits.first_within in
    search (
      joined-merged_step,
      joined_all-append,
      joined-merged_steps level m steps (joined_all level step.merged_first cs)
          (subst (λ n. AllByRecursion (MovesMerged n) steps) (sym n) f.1),
    )

pub held_over : (sts : List (ℕ × ℕ)) (p q t : ℕ) → HeldBetween sts p q → HeldBetween sts q t → HeldBetween sts p t
held_over = search arith

pub held-front : (xs ys : List (ℕ × ℕ)) (p q : ℕ) → HeldBetween xs p q → HeldBetween (xs ++ ys) p q
held-front = search (arith, list_any-append)

pub held-rest : (xs ys : List (ℕ × ℕ)) (p q : ℕ) → HeldBetween ys p q → HeldBetween (xs ++ ys) p q
held-rest = search (arith, list_any-append)

lt_both : (a b r : ℕ) → a < r → r < b → (nat_lt a r && nat_lt r b) ≡ true
lt_both = grind arith

-- one of the stretches holds both places
pub held_by : (sts : List (ℕ × ℕ)) (k : ℕ) (d : ℕ × ℕ) → k < length sts → (p q : ℕ) → (get_or sts k d).0 ≤ p
    → p < (get_or sts k d).1 → (get_or sts k d).0 ≤ q → q < (get_or sts k d).1 → HeldBetween sts p q
held_by = search (arith, list_any_at)

-- all neighbours within a stretch are held; so they are in each of the stretches
abbrev pub HeldIn : List (ℕ × ℕ) → ℕ × ℕ → Type 0
HeldIn sts st = (i : ℕ) → st.0 < i → i < st.1 → held sts i ≡ true

more_held : (st : ℕ × ℕ) (sts xs : List (ℕ × ℕ)) → AllByRecursion (HeldIn sts) xs
    → AllByRecursion (HeldIn (st ∷ sts)) xs
more_held st sts [] h = tt
more_held st sts (x ∷ xs) h = search (arith, more_held st sts xs h.1)

pub all_held : (sts : List (ℕ × ℕ)) → AllByRecursion (HeldIn sts) sts
all_held [] = tt
all_held (st ∷ sts) = search (arith, more_held, all_held sts)

-- a step that merges all its places first may move as it likes
pub moves_anywhere : (n : ℕ) (places : List ℕ) → length places ≡ n → AllByRecursion (λ p. p < n) places
    → MovesMerged n (record { merged_first = (0, n) ∷ []; places = places; merged_then = [] })
moves_anywhere = search (arith, within_at)

-- the merged stretches lead from each place to the old place of what stands there
held_moved : (n : ℕ) (steps : List Step) (before : List (ℕ × ℕ)) (olds : List ℕ) → length olds ≡ n
    → AllByRecursion (MovesMerged n) steps → ((p : ℕ) → p < n → HeldBetween before p (get_or olds p 0)) → (p : ℕ)
    → p < n → HeldBetween (before ++ all_first steps) p (get_or (moved_on steps olds) p 0)
held_moved n [] before olds e f h p l = search held-front
held_moved n (step ∷ steps) before olds e f h p l =
    let within = subst (λ n. AllByRecursion (λ p. p < n) step.places) (sym e) f.0.fits.within in
    search (
      arith,
      append_assoc before step.merged_first (all_first steps),
      held_moved n steps (before ++ step.merged_first) (pick step.places olds) (search length-pick) f.1
          (λ p l. subst (λ t. HeldBetween (before ++ step.merged_first) p t) (sym (get_or-pick 0 step.places olds
          within p (omega arith))) (held_over (before ++ step.merged_first) p (get_or step.places p 0) (get_or olds
          (get_or step.places p 0) 0) (held-rest before step.merged_first p (get_or step.places p 0) (f.0.inside p
          (omega arith))) (held-front before step.merged_first (get_or step.places p 0) (get_or olds (get_or
          step.places p 0) 0) (h (get_or step.places p 0) (within_at n step.places f.0.fits.within p (omega
          arith)))))) p l,
    )

held-old_places : (n : ℕ) (steps : List Step) → AllByRecursion (MovesMerged n) steps → (p : ℕ) → p < n
    → HeldBetween (all_first steps) p (get_or (old_places n steps) p 0)
held-old_places n steps f p l = held_moved n steps [] (range_with_len 0 n) (length-range_with_len 0 n) f
    (λ p l r x y. let e : get_or (range_with_len 0 n) p 0 ≡ p =
    search (arith, get_or-range_with_len) in absurd (omega arith)) p l

-- the old places are as many as there are places, and are places
pub within-old_places : (n : ℕ) (steps : List Step) → AllByRecursion (λ p. p < n) (old_places n steps)
within-old_places n steps = kept (λ ps. AllByRecursion (λ p. p < n) ps) (λ ps step. pick step.places ps) (λ _. Unit {0})
    (λ step ps _ h. within_picked n step.places ps h) steps (range_with_len 0 n) (any_steps steps)
    (within_range 0 n n (omega arith))

pub length-old_places : (n : ℕ) (steps : List Step) → FitSteps n steps → length (old_places n steps) ≡ n
length-old_places n steps f = kept (λ ps. length ps ≡ n) (λ ps step. pick step.places ps) (FitsStep n)
    (λ step ps g e. length-pick step.places ps (subst (λ n. AllByRecursion (λ p. p < n) step.places) (sym e) g.within)
    ∙ g.as_many) steps (range_with_len 0 n) f (length-range_with_len 0 n)

-- the old places after more steps are those of the further steps, picked of those before
pub moved_by_old_places : (n : ℕ) (steps : List Step) (places : List ℕ) → length places ≡ n
    → moved_on steps places ≡ pick (old_places n steps) places
moved_by_old_places n steps places long =
    followed_all (λ (xs s : List ℕ). s ≡ xs) (λ s step. pick step.places s) (λ _. Unit {0})
    (λ step xs s _ e. ap (pick step.places) e) n places steps places long (any_steps steps) refl

pub old_places_then : (n : ℕ) (steps more : List Step) → FitSteps n steps → old_places n (steps ++ more)
    ≡ pick (old_places n more) (old_places n steps)
old_places_then = search (fold-append, moved_by_old_places, length-old_places)

pub merged_fits : (n : ℕ) (steps : List Step) → AllByRecursion (MovesMerged n) steps → FitSteps n steps
merged_fits n [] f = tt
merged_fits n (step ∷ steps) f = (f.0.fits, merged_fits n steps f.1)

pub end_within-append : (n : ℕ) (xs ys : List (ℕ × ℕ)) → EndWithin n xs → EndWithin n ys → EndWithin n (xs ++ ys)
end_within-append n [] ys h i = i
end_within-append n (x ∷ xs) ys h i = (h.0, end_within-append n xs ys h.1 i)

pub end_within-all_first : (n : ℕ) (steps : List Step) → AllByRecursion (MovesMerged n) steps
    → EndWithin n (all_first steps)
end_within-all_first n [] f = tt
end_within-all_first n (step ∷ steps) f = search (end_within-append, end_within-all_first n steps f.1)

-- the cluster law: all places between a place and the old place of what stands there share one cluster
pub share-moved : (level : BufferClusterLevel) → merges level ≡ true → (steps : List Step) (cs : List ℕ)
    → AllByRecursion (MovesMerged (length cs)) steps → (p : ℕ) → p < length cs
    → ShareCluster (joined_steps level steps cs) p (get_or (old_places (length cs) steps) p 0)
share-moved level m steps cs f =
    let k = length-old_places (length cs) steps (merged_fits (length cs) steps f) in
    search (arith, joined-merged_steps, held_share, end_within-all_first, within_at, within-old_places, held-old_places)

-- what holds of all clusters still does
pub all-joined : (P : ℕ → Type 0) (level : BufferClusterLevel) (sts : List (ℕ × ℕ)) (cs : List ℕ)
    → EndWithin (length cs) sts → All P cs → All P (joined_all level sts cs)
all-joined P level sts cs w h = All-from_get_or P (joined_all level sts cs) 0 (λ i l.
    let n = length-joined_all level sts cs w in
    let (q, ql, e, s) = joined_all-reached level sts cs w i (omega arith) in
    subst P (sym e) (h q 0 ql))

pub all-picked : (P : ℕ → Type 0) (ps cs : List ℕ) → AllByRecursion (λ p. p < length cs) ps → All P cs
    → All P (pick ps cs)
all-picked P ps cs w h = All-from_get_or P (pick ps cs) 0 (λ i l.
    let n = length-pick ps cs w in
    subst P (sym (get_or-pick 0 ps cs w i (omega arith))) (h (get_or ps i 0) 0 (search (arith, within_at))))

-- a step of n places over as many clusters
pub record Stepped (n : ℕ) (level : BufferClusterLevel) (step : Step) (cs : List ℕ) : Type 0 where
  pub first_within : EndWithin (length cs) step.merged_first
  pub within : AllByRecursion (λ p. p < length (joined_all level step.merged_first cs)) step.places
  pub then_within : EndWithin (length (pick step.places (joined_all level step.merged_first cs))) step.merged_then
  pub as_many : length (joined_step level step cs) ≡ n

pub stepped : (n : ℕ) (level : BufferClusterLevel) (step : Step) (cs : List ℕ) → length cs ≡ n → FitsStep n step
    → Stepped n level step cs
stepped n level step cs e f =
    let js = joined_all level step.merged_first cs in
    let within = subst (λ n. AllByRecursion (λ p. p < n) step.places) (sym
    (search (arith, length-joined_all))) f.within in
    let last = subst (λ n. EndWithin n step.merged_then) (sym
    (length-pick step.places js within ∙ f.as_many)) f.then_within in
    search (arith, length-pick step.places js within, length-joined_all level step.merged_then (pick step.places js) last)

pub all-joined_steps : (P : ℕ → Type 0) (level : BufferClusterLevel) (n : ℕ) (steps : List Step) (cs : List ℕ)
    → length cs ≡ n → FitSteps n steps → All P cs → (length (joined_steps level steps cs) ≡ n)
    × All P (joined_steps level steps cs)
all-joined_steps P level n steps cs e f h =
    kept (λ cs. (length cs ≡ n) × All P cs) (λ cs step. joined_step level step cs) (FitsStep n) (λ step cs g h.
    let s = stepped n level step cs h.0 g in
    search (all-joined, all-picked)) steps cs f (e, h)
