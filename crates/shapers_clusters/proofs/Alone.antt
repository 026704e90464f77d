-- A stretch of a text whose clusters are its own.
use Rattle.std.proofs.Common.{ℕ, ◌+◌, ◌-◌, ◌<◌, ◌≤◌, ◌≡◌, inl, inr, List, ◌∷◌, ◌++◌, length, map, take, drop, get_or, refl, sym, ◌∙◌, ap, subst, arith, length-append, length-take-le, length-drop}
use Rattle.std.specs.List.{AllByRecursion, Contains, sum_by}
use Rattle.std.proofs.lemmas.List.{drop_at, ext_get_or, get_or-append_right, get_or-drop, get_or-take, get_or_append_left, get_or_default, length-map, map-append, take_at}
use Rattle.std.proofs.lemmas.List.Sums.{fold-append}
use Rattle.shapers_buffer.specs.declared.buffer.level.BufferClusterLevel.{BufferClusterLevel}
use Rattle.shapers_buffer.specs.Clusters.{stretch_of}
use Rattle.shapers_buffer.proofs.ClusterLemmas.{three_parts}
use Rattle.shapers_clusters.specs.Cuts.{ShareNone, StandsApart}
use Rattle.shapers_clusters.specs.ClusterMerges.{of_cluster}
use Rattle.shapers_clusters.specs.Steps.{FitSteps, Step, joined_step, joined_steps, after_steps, steps_along, widened}
use Rattle.shapers_clusters.proofs.StepsOutside.{along_elsewhere, leaves_elsewhere}
use Rattle.shapers_clusters.proofs.Halves.{along-append, steps_alone}
use Rattle.shapers_clusters.proofs.ClusterMerges.{clusters-of_clusters}
use Rattle.shapers_clusters.proofs.Moves.{all-joined_steps, clusters-after_steps}
use Rattle.shapers_clusters.proofs.Widened.{all_fit-widened}
use Rattle.shapers_clusters.proofs.Spread.{length-stretch, stretch-at}
use Rattle.std.proofs.lemmas.List.Elements.{All-contains_itself}

-- a stretch of two lists that have the same there
pub same_stretch : (s e : ℕ) (xs ys : List ℕ) → e ≤ length xs → e ≤ length ys
    → ((p : ℕ) → s ≤ p → p < e → get_or xs p 0 ≡ get_or ys p 0) → stretch_of s e xs ≡ stretch_of s e ys
same_stretch s e xs ys a b same =
    let n = length-stretch s e xs a in
    ext_get_or 0 (stretch_of s e xs) (stretch_of s e ys) (n ∙ sym (length-stretch s e ys b)) (λ i l.
    search (arith, stretch-at))

-- its own steps
steps_own : (level : BufferClusterLevel) (s e : ℕ) (steps : List Step) (cs : List ℕ) → s ≤ e → e ≤ length cs
    → FitSteps (e - s) steps → StandsApart s e cs → joined_steps level (map (widened s e (length cs)) steps) cs
    ≡ take s cs ++ (joined_steps level steps (stretch_of s e cs) ++ drop e cs)
steps_own level s e steps cs h l f apart =
    let a = take s cs in
    let b = stretch_of s e cs in
    let c = drop e cs in
    let n = length cs in
    let an = length-take-le s cs (omega arith) in
    let bn = length-stretch s e cs l in
    let cn : length c ≡ n - e = length-drop e cs in
    let ga = map of_cluster a in
    let gb = map of_cluster b in
    let gc = map of_cluster c in
    let cb = clusters-of_clusters b in
    let none_before : ShareNone gb ga = λ i j il jl same. (let i2 : i < length b =
    omega (arith, length-map b of_cluster) in
    let j2 : j < length a = omega (arith, length-map a of_cluster) in
    let eq = ap (λ xs. get_or xs i 0) (sym cb) ∙ same ∙ ap (λ xs. get_or xs j 0) (clusters-of_clusters a) in
    apart (s + i) j (omega arith) (omega arith) (omega arith) (inl (omega arith)) (sym
    (stretch-at s e cs i (omega arith)) ∙ eq ∙ get_or-take s cs j 0 (omega arith))) in
    let none_behind : ShareNone gb gc = λ i j il jl same. (let i2 : i < length b =
    omega (arith, length-map b of_cluster) in
    let j2 : j < length c = omega (arith, length-map c of_cluster) in
    let eq = ap (λ xs. get_or xs i 0) (sym cb) ∙ same ∙ ap (λ xs. get_or xs j 0) (clusters-of_clusters c) in
    apart (s + i) (e + j) (omega arith) (omega arith) (omega arith) (inr (omega arith)) (sym (stretch-at s e cs i
    (omega arith)) ∙ eq ∙ get_or-drop e cs j 0)) in
    cc (
      map-append (λ g. g.cluster) ga (gb ++ gc),
      map-append (λ g. g.cluster) gb gc,
      clusters-of_clusters a,
      clusters-of_clusters c,
      three_parts s e cs h,
      clusters-after_steps level (map (widened s e n) steps) (ga ++ (gb ++ gc)),
      steps_alone level s e n steps ga gb gc h (length-map a of_cluster ∙ an) (length-map b of_cluster ∙ bn)
          (omega (arith, length-map c of_cluster)) f none_before none_behind,
      map-append (λ g. g.cluster) ga (after_steps level steps gb ++ gc),
      map-append (λ g. g.cluster) (after_steps level steps gb) gc,
      clusters-after_steps level steps gb,
    )

-- what they make of the stretch
own_long : (level : BufferClusterLevel) (s e : ℕ) (steps : List Step) (cs : List ℕ) → e ≤ length cs
    → FitSteps (e - s) steps → length (joined_steps level steps (stretch_of s e cs)) ≡ e - s
own_long level s e steps cs l f =
    (all-joined_steps (λ _. Unit {0}) level (e - s) steps (stretch_of s e cs) (length-stretch s e cs l) f
    (λ _ _ _. tt)).0

pub stretch_own : (level : BufferClusterLevel) (s e : ℕ) (steps : List Step) (cs : List ℕ) → s ≤ e → e ≤ length cs
    → FitSteps (e - s) steps → StandsApart s e cs
    → stretch_of s e (joined_steps level (map (widened s e (length cs)) steps) cs)
    ≡ joined_steps level steps (stretch_of s e cs)
stretch_own = search (arith, steps_own, drop_at, length-take-le, take_at, own_long)

-- and that its clusters stay its own
inside_parts : (a m c : List ℕ) (s e i : ℕ) → length a ≡ s → length m ≡ e - s → s ≤ i → i < e
    → get_or (a ++ (m ++ c)) i 0 ≡ get_or m (i - s) 0
inside_parts = search (arith, get_or-append_right, get_or_append_left)

behind_parts : (a m c : List ℕ) (s e j : ℕ) → length a ≡ s → length m ≡ e - s → s ≤ e → e ≤ j
    → get_or (a ++ (m ++ c)) j 0 ≡ get_or c (j - e) 0
behind_parts = search (arith, get_or-append_right)

pub apart_own : (level : BufferClusterLevel) (s e : ℕ) (steps : List Step) (cs : List ℕ) → s ≤ e → e ≤ length cs
    → FitSteps (e - s) steps → StandsApart s e cs
    → StandsApart s e (joined_steps level (map (widened s e (length cs)) steps) cs)
apart_own level s e steps cs h l f apart i j x y jl out same =
    let a = take s cs in
    let b = stretch_of s e cs in
    let c = drop e cs in
    let made = joined_steps level steps b in
    let js = joined_steps level (map (widened s e (length cs)) steps) cs in
    let is = steps_own level s e steps cs h l f apart in
    let an = length-take-le s cs (omega arith) in
    let bn = length-stretch s e cs l in
    let mn = own_long level s e steps cs l f in
    let (k, inside, found) =
    (all-joined_steps (Contains b) level (e - s) steps b bn f (All-contains_itself b)).1 (i - s) 0 (omega arith) in
    let from =
    (ap (λ xs. get_or xs i 0) is ∙ inside_parts a made c s e i an mn x y)
    ∙ sym (get_or_default b k 0 (get_or made (i - s) 0) inside ∙ found) ∙ stretch-at s e cs k (omega arith) in
    let jn : length js ≡ length cs =
    ap length is ∙ length-append a (made ++ c) ∙ omega (arith, length-append made c, length-drop e cs) in
    apart (s + k) j (omega arith) (omega arith) (omega arith) out (sym from ∙ same ∙ ap (λ xs. get_or xs j 0) is
    ∙ elim out [
      | inl before ↦ get_or_append_left a (made ++ c) 0 j (omega arith) ∙ get_or-take s cs j 0 before
      | inr behind ↦
          behind_parts a made c s e j an mn h behind ∙ get_or-drop e cs (j - e) 0 ∙ (let at : e + (j - e) ≡ j = omega arith
          in ap (λ k. get_or cs k 0) at)
    ])

-- in a whole text
pub alone_in_text : (level : BufferClusterLevel) (before behind : List (ℕ × List Step)) (piece : ℕ × List Step)
    (cs : List ℕ) →
    let s = sum_by (λ piece. piece.0) before in
    let e = s + piece.0 in
    e + sum_by (λ piece. piece.0) behind ≤ length cs → AllByRecursion (λ piece. FitSteps piece.0 piece.1) before
    → FitSteps piece.0 piece.1 → AllByRecursion (λ piece. FitSteps piece.0 piece.1) behind → StandsApart s e cs →
    stretch_of s e (joined_steps level (steps_along (length cs) 0 (before ++ piece ∷ behind)) cs)
    ≡ joined_steps level piece.1 (stretch_of s e cs)
alone_in_text level before behind piece cs l f g h apart =
    let n = length cs in
    let s = sum_by (λ piece. piece.0) before in
    let e = s + piece.0 in
    let own = map (widened s e n) piece.1 in
    let first = steps_along n 0 before in
    let later = steps_along n e behind in
    let run = joined_steps level in
    let ms = run first cs in
    let bs = run own ms in
    let one = leaves_elsewhere s e level n first cs refl (omega arith) (along_elsewhere s e n 0 before (omega arith)
    (omega arith) f (inl (omega arith))) in
    let an = one.same_length in
    let fit = subst (λ k. FitSteps k piece.1) (omega arith) g in
    let stays = subst (λ steps. StandsApart s e (run steps ms))
    (ap (λ k. map (widened s e k) piece.1) an) (apart_own level s e
    piece.1 ms (omega arith) (omega arith) fit (one.apart apart)) in
    let bn = (all-joined_steps (λ _. Unit {0}) level n own ms an (all_fit-widened s e n piece.1 (omega
    arith) (omega arith) fit) (λ _ _ _. tt)).0 in
    let last = leaves_elsewhere s e level n later bs bn (omega arith) (along_elsewhere s e n e behind (omega arith)
    (omega arith) h (inr (omega arith))) in
    search (
      arith,
      along-append n 0 before (piece ∷ behind),
      fold-append (λ cs step. joined_step level step cs) cs first (own ++ later),
      fold-append (λ cs step. joined_step level step cs) ms own later,
      same_stretch s e (run later bs) bs (omega arith) (omega arith) (last.own stays),
      stretch_own level s e piece.1 ms (omega arith) (omega arith) fit (one.apart apart),
      same_stretch s e ms cs (omega arith) (omega arith) (one.own apart),
    )
