-- Steps over a stretch of places, as steps over all places.
use Rattle.std.proofs.Common.{ℕ, zero, suc, ◌+◌, ◌-◌, ◌<◌, ◌≤◌, ◌≡◌, inl, inr, nat_lt, List, [], ◌∷◌, ◌++◌, map, length, get_or, take, drop, refl, sym, ◌∙◌, ap, subst, arith, append_assoc, length-append, length-take, length-drop}
use Rattle.std.specs.List.{sum_by, AllByRecursion, range_with_len}
use Rattle.std.proofs.lemmas.List.{length-map, get_or-map, get_or_append_left, get_or-append_right, get_or-take, get_or-drop, take_at, drop_at, take_rest, take-append-drop, drop-drop}
use Rattle.std.proofs.lemmas.List.Sums.{sum_by-cons, fold-append}
use Rattle.std.proofs.lemmas.List.FromFn.{length-range_with_len, get_or-range_with_len}
use Rattle.std.proofs.lemmas.Bool.{cases_lt}
use Rattle.shapers_buffer.specs.Glyphs.{Glyphs}
use Rattle.shapers_buffer.specs.declared.buffer.level.BufferClusterLevel.{BufferClusterLevel}
use Rattle.shapers_buffer.specs.Glyph.{order_view, plain}
use Rattle.shapers_buffer.specs.Clusters.{stretch_of}
use Rattle.shapers_clusters.specs.Cuts.{EndWithin, held}
use Rattle.shapers_buffer.specs.Places.{pick}
use Rattle.shapers_clusters.specs.Steps.{Step, after_step, after_steps, moved_on, old_places, FitsStep, FitSteps, MovesInside, MovesMerged, shifted, widened, steps_along, reordered_along}
use Rattle.shapers_buffer.proofs.MappedLists.{all-append, all-mapped, all-range}
pub use Rattle.shapers_buffer.proofs.Ranges.{range-append}
use Rattle.shapers_clusters.proofs.Picks.{length-pick, pick-map, pick-append, pick-range, pick-within, some_element}
use Rattle.shapers_clusters.proofs.Moves.{order_view-after_steps, falls-after_steps, length-old_places, within-old_places}

pick-shifted : {X : Type 0} (s e : ℕ) (ps : List ℕ) (xs : List X) → e ≤ length xs → AllByRecursion (λ p. p < e - s) ps
    → pick (map (λ p. s + p) ps) xs ≡ pick ps (stretch_of s e xs)
pick-shifted s e [] xs l h = refl
pick-shifted s e (p ∷ ps) xs l h = elim (some_element xs) [
  | inl z ↦ absurd (omega arith)
  | inr d ↦
      let n : length (stretch_of s e xs) ≡ e - s = search (arith, length-take, length-drop) in
      cc (
        pick-within d (s + p) (map (λ p. s + p) ps) xs (omega arith),
        get_or-take (e - s) (drop s xs) p d h.0,
        get_or-drop s xs p d,
        pick-shifted s e ps xs l h.1,
        pick-within d p ps (stretch_of s e xs) (omega arith),
      )
]

-- a widened step moves the stretch as the step does, and nothing else
pub pick-widened : {X : Type 0} (s e : ℕ) (step : Step) (xs : List X) → s ≤ e → e ≤ length xs
    → AllByRecursion (λ p. p < e - s) step.places → pick (widened s e (length xs) step).places xs
    ≡ take s xs ++ (pick step.places (stretch_of s e xs) ++ drop e xs)
pick-widened s e step xs h l w =
    let middle = map (λ p. s + p) step.places in
    let rest = range_with_len e (length xs - e) in
    cc (
      pick-append (range_with_len 0 s) (middle ++ rest) xs,
      pick-range 0 s xs (omega arith),
      pick-append middle rest xs,
      pick-shifted s e step.places xs l w,
      pick-range e (length xs - e) xs (omega arith),
      take_rest xs e,
    )

end_within-shifted : (s e n : ℕ) (sts : List (ℕ × ℕ)) → s ≤ e → e ≤ n → EndWithin (e - s) sts
    → EndWithin n (shifted s sts)
end_within-shifted s e n sts h l w =
    all-mapped (λ st. st.1 ≤ e - s) (λ st. st.1 ≤ n) (λ st. (s + st.0, s + st.1)) sts (λ st i. omega arith) w

pub fits-widened : (s e n : ℕ) (step : Step) → s ≤ e → e ≤ n → FitsStep (e - s) step → FitsStep n (widened s e n step)
fits-widened s e n step h l f = search (
  arith,
  length-append (range_with_len 0 s) (map (λ p. s + p) step.places ++ range_with_len e (n - e)),
  length-append (map (λ p. s + p) step.places) (range_with_len e (n - e)),
  length-map step.places (λ p. s + p),
  length-range_with_len 0 s,
  length-range_with_len e (n - e),
  all-append (λ p. p < n) (range_with_len 0 s) (map (λ p. s + p) step.places ++ range_with_len e (n - e))
      (all-range (λ p. p < n) 0 s (λ p x y. omega arith))
      (all-append (λ p. p < n) (map (λ p. s + p) step.places) (range_with_len e (n - e)) (all-mapped (λ p. p < e
      - s) (λ p. p < n) (λ p. s + p) step.places (λ p x. omega arith) f.within) (all-range (λ p. p < n) e (n - e)
      (λ p x y. omega arith))),
  end_within-shifted s e n step.merged_first h l f.first_within,
  end_within-shifted s e n step.merged_then h l f.then_within,
)

-- the places of a widened step
pub widened_before : (s e n : ℕ) (step : Step) (p : ℕ) → p < s → get_or (widened s e n step).places p 0 ≡ p
widened_before = search (arith, get_or_append_left, length-range_with_len, get_or-range_with_len)

pub widened_inside : (s e n : ℕ) (step : Step) → FitsStep (e - s) step → (p : ℕ) → s ≤ p → p < e
    → get_or (widened s e n step).places p 0 ≡ s + get_or step.places (p - s) 0
widened_inside =
    search (arith, get_or-append_right, length-range_with_len, get_or_append_left, length-map, get_or-map)

pub widened_behind : (s e n : ℕ) (step : Step) → s ≤ e → FitsStep (e - s) step → (p : ℕ) → e ≤ p → p < n
    → get_or (widened s e n step).places p 0 ≡ p
widened_behind = search (arith, get_or-append_right, length-range_with_len, length-map, get_or-range_with_len)

lt-shifted : (s a b : ℕ) → nat_lt (s + a) (s + b) ≡ nat_lt a b
lt-shifted = grind arith

pub held-shifted : (s r : ℕ) (sts : List (ℕ × ℕ)) → held (shifted s sts) (s + r) ≡ held sts r
held-shifted s r [] = refl
held-shifted s r (st ∷ sts) = let a = lt-shifted s st.0 r in let b = lt-shifted s r st.1 in let i =
    held-shifted s r sts in cc

inside-widened : (s e n : ℕ) (step : Step) → s ≤ e → e ≤ n → FitsStep (e - s) step
    → MovesInside step.merged_first step.places → MovesInside (shifted s step.merged_first) (widened s e n step).places
inside-widened s e n step h l f i p pl r x y =
    let many = (fits-widened s e n step h l f).as_many in
    elim (cases_lt p s) [
      | inl a ↦ (let at = widened_before s e n step p a in absurd (omega arith))
      | inr a ↦ elim (cases_lt p e) [
        | inl b ↦ (
            let at = widened_inside s e n step f p a b in
            search (
              arith,
              held-shifted s (r - s) step.merged_first,
              i (p - s) (omega arith) (r - s) (omega arith) (omega arith),
            ))
        | inr b ↦ (let at = widened_behind s e n step h f p b (omega arith) in absurd (omega arith))
      ]
    ]

-- a step that moves only inside what it merged first does so widened
pub moves-widened : (s e n : ℕ) (step : Step) → s ≤ e → e ≤ n → MovesMerged (e - s) step
    → MovesMerged n (widened s e n step)
moves-widened s e n step h l f = search (fits-widened, inside-widened)

pub all_fit-widened : (s e n : ℕ) (steps : List Step) → s ≤ e → e ≤ n → FitSteps (e - s) steps
    → FitSteps n (map (widened s e n) steps)
all_fit-widened = search (all-mapped, fits-widened)

pub all_moves-widened : (s e n : ℕ) (steps : List Step) → s ≤ e → e ≤ n → AllByRecursion (MovesMerged (e - s)) steps
    → AllByRecursion (MovesMerged n) (map (widened s e n) steps)
all_moves-widened = search (all-mapped, moves-widened)

-- a widened step on a list that is given by its three parts
pub pick-parts : {X : Type 0} (s e n : ℕ) (step : Step) (front middle rest : List X) → s ≤ e → length front ≡ s
    → length middle ≡ e - s → e + length rest ≡ n → FitsStep (e - s) step
    → pick (widened s e n step).places (front ++ (middle ++ rest)) ≡ front ++ (pick step.places middle ++ rest)
pick-parts s e n step front middle rest h a b c f =
    let len : length (front ++ (middle ++ rest)) ≡ n = search (arith, length-append) in
    let both : length (front ++ middle) ≡ e = search (arith, length-append) in
    search (arith, pick-widened, take_at, drop_at, append_assoc)

-- the old places of widened steps: those in front, those of the stretch, those behind
moved-widened : (s e n : ℕ) (steps : List Step) (front olds rest : List ℕ) → s ≤ e → length front ≡ s
    → length olds ≡ e - s → e + length rest ≡ n → FitSteps (e - s) steps
    → moved_on (map (widened s e n) steps) (front ++ (map (λ p. s + p) olds ++ rest))
    ≡ front ++ (map (λ p. s + p) (moved_on steps olds) ++ rest)
moved-widened s e n [] front olds rest h a b c f = refl
moved-widened s e n (step ∷ steps) front olds rest h a b c f =
    let k = length-pick step.places olds (subst (λ n. AllByRecursion (λ p. p < n) step.places) (sym b) f.0.within)
    ∙ f.0.as_many in
    cc (
      pick-parts s e n step front (map (λ p. s + p) olds) rest h a (search length-map) c f.0,
      pick-map (λ p. s + p) step.places olds,
      moved-widened s e n steps front (pick step.places olds) rest h a k c f.1,
    )

pub map-range : (s a k : ℕ) → map (λ p. s + p) (range_with_len a k) ≡ range_with_len (s + a) k
map-range s a zero = refl
map-range s a (suc k) = search (arith, map-range s (a + 1) k)

-- all places, in three parts
pub range-three : (s e n : ℕ) → s ≤ e → e ≤ n → range_with_len 0 n ≡ range_with_len 0 s
    ++ (map (λ p. s + p) (range_with_len 0 (e - s)) ++ range_with_len e (n - e))
range-three s e n =
    search (arith, range-append 0 s ((e - s) + (n - e)), range-append (0 + s) (e - s) (n - e), map-range s 0 (e - s))

pub old_places-widened : (s e n : ℕ) (steps : List Step) → s ≤ e → e ≤ n → FitSteps (e - s) steps
    → old_places n (map (widened s e n) steps) ≡ range_with_len 0 s
    ++ (map (λ p. s + p) (old_places (e - s) steps) ++ range_with_len e (n - e))
old_places-widened s e n steps h l f = cc (
  range-three s e n h l,
  moved-widened s e n steps (range_with_len 0 s) (range_with_len 0 (e - s)) (range_with_len e (n - e)) h
      (length-range_with_len 0 s) (length-range_with_len 0 (e - s)) (search (arith, length-range_with_len)) f,
)

-- the order view after widened steps: the stretch is reordered by the steps, and nothing else
pub order_view-widened : (level : BufferClusterLevel) (s e : ℕ) (steps : List Step) (gs : Glyphs) → s ≤ e
    → e ≤ length gs → FitSteps (e - s) steps → order_view (after_steps level (map (widened s e (length gs)) steps) gs)
    ≡ take s (order_view gs)
    ++ (pick (old_places (e - s) steps) (stretch_of s e (order_view gs)) ++ drop e (order_view gs))
order_view-widened level s e steps gs h l f =
    let n = length-map gs plain in
    cc (
      order_view-after_steps level (map (widened s e (length gs)) steps) gs,
      old_places-widened s e (length gs) steps h l f,
      pick-widened s e (record { merged_first = []; places = old_places (e - s) steps; merged_then = [] })
          (order_view gs) h (omega arith) (within-old_places (e - s) steps),
    )

-- what they all are, if each piece's steps are so over the piece
pub all_along : (P : ℕ → Step → Type 0)
    → ((s e n : ℕ) (step : Step) → s ≤ e → e ≤ n → P (e - s) step → P n (widened s e n step))
    → (n s : ℕ) (pieces : List (ℕ × List Step)) → s + sum_by (λ piece. piece.0) pieces ≤ n
    → AllByRecursion (λ piece. AllByRecursion (P piece.0) piece.1) pieces
    → AllByRecursion (P n) (steps_along n s pieces)
all_along P widens n s [] l h = tt
all_along P widens n s (piece ∷ rest) l h =
    let k = sum_by-cons (λ piece. piece.0) piece rest in
    all-append (P n) (map (widened s (s + piece.0) n) piece.1) (steps_along n (s + piece.0) rest)
    (all-mapped (P (s + piece.0 - s)) (P n) (widened s (s + piece.0) n) piece.1
    (λ step g. widens s (s + piece.0) n step (omega arith) (omega arith) g) (subst
    (λ k. AllByRecursion (P k) piece.1) (omega arith) h.0))
    (all_along P widens n (s + piece.0) rest (omega arith) h.1)

order_view-stretch : (level : BufferClusterLevel) (s k : ℕ) (steps : List Step) (gs : Glyphs)
    → s + k ≤ length gs → FitSteps k steps → order_view (after_steps level (map (widened s (s + k) (length gs)) steps) gs)
    ≡ take s (order_view gs)
    ++ (pick (old_places k steps) (take k (drop s (order_view gs))) ++ drop k (drop s (order_view gs)))
order_view-stretch = search (arith, order_view-widened, drop-drop)

-- the order view after the steps of neighbouring stretches: each is reordered for itself
pub order_view-along : (level : BufferClusterLevel) (s : ℕ) (pieces : List (ℕ × List Step)) (gs : Glyphs)
    → s + sum_by (λ piece. piece.0) pieces ≤ length gs → AllByRecursion (λ piece. FitSteps piece.0 piece.1) pieces
    → order_view (after_steps level (steps_along (length gs) s pieces) gs) ≡ take s (order_view gs)
    ++ reordered_along pieces (drop s (order_view gs))
order_view-along level s [] gs l f = search take-append-drop
order_view-along level s (piece ∷ rest) gs l f =
    let k = piece.0 in
    let n = length gs in
    let sum = sum_by-cons (λ piece. piece.0) piece rest in
    let ws = map (widened s (s + piece.0) (length gs)) piece.1 in
    let ms = after_steps level ws gs in
    let kn =
    (falls-after_steps level ws gs
    (all_fit-widened s (s + piece.0) (length gs) piece.1 (omega arith) (omega arith) (subst
    (λ k. FitSteps k piece.1) (omega arith) f.0))).0 in
    let a = take s (order_view gs) in
    let b = pick (old_places piece.0 piece.1) (take piece.0 (drop s (order_view gs))) in
    let c = drop piece.0 (drop s (order_view gs)) in
    let xn : length (order_view gs) ≡ length gs = length-map gs plain in
    let bn : length b ≡ piece.0 =
    length-pick (old_places piece.0 piece.1) (take piece.0 (drop s (order_view gs)))
    (subst (λ n. AllByRecursion (λ p. p < n) (old_places piece.0 piece.1)) (omega (
      arith,
      length-take piece.0 (drop s (order_view gs)),
      length-drop s (order_view gs),
    )) (within-old_places piece.0 piece.1)) ∙ length-old_places piece.0 piece.1 f.0 in
    let abn = length-append a b ∙ omega (arith, length-take s (order_view gs)) in
    ap order_view (fold-append (λ gs step. after_step level step gs) gs ws (steps_along (length gs) (s + piece.0) rest))
    ∙ ap (λ n. order_view (after_steps level (steps_along n (s + piece.0) rest) ms)) (sym kn)
    ∙ order_view-along level (s + piece.0) rest ms (omega arith) f.1
    ∙ ap (λ ys. take (s + piece.0) ys ++ reordered_along rest (drop (s + piece.0) ys))
    (order_view-stretch level s piece.0 piece.1 gs (omega arith) f.0 ∙ sym (append_assoc a b c))
    ∙ ap (λ ys. ys ++ reordered_along rest (drop (s + piece.0) ((a ++ b) ++ c))) (take_at (a ++ b) c (s + piece.0) abn)
    ∙ ap (λ ys. (a ++ b) ++ reordered_along rest ys) (drop_at (a ++ b) c (s + piece.0) abn)
    ∙ append_assoc a b (reordered_along rest c)

-- a stretch and what is behind it
pub stretch-rest : {X : Type 0} (s e : ℕ) (xs : List X) → s ≤ e → stretch_of s e xs ++ drop e xs ≡ drop s xs
stretch-rest s e xs = search (arith, drop-drop (e - s) s xs, take-append-drop (e - s) (drop s xs))
