-- What shows that a body reordered its syllable: merges, changes that don't show, and one placement.
use Rattle.std.proofs.Common.{ℕ, ◌+◌, ◌-◌, ◌<◌, ◌≤◌, ◌≡◌, List, [], ◌∷◌, ◌++◌, map, length, take, drop, refl, ◌∙◌, ap, arith, length-append, length-take-le, length-drop, zero-add, ◌⊎◌}
use Rattle.std.specs.List.{AllByRecursion, range_with_len}
use Rattle.std.proofs.lemmas.List.{length-map, take-map, drop-map, map-append, take_rest}
use Rattle.std.proofs.lemmas.List.FromFn.{length-range_with_len, get_or-range_with_len}
use Rattle.shapers_buffer.specs.Glyphs.{Glyphs}
use Rattle.shapers_buffer.specs.declared.buffer.level.BufferClusterLevel.{BufferClusterLevel}
use Rattle.shapers_buffer.specs.Buffer.{Buffer, but_places}
use Rattle.shapers_buffer.specs.Clusters.{merge, merge_all, stretch_of, with_stretch}
use Rattle.shapers_buffer.specs.Glyph.{order_view, plain}
use Rattle.shapers_buffer.specs.Places.{listed, pick, placed}
use Rattle.shapers_buffer.proofs.ClusterLemmas.{three_parts}
use Rattle.shapers_clusters.specs.Flags.{HidesFields, seen}
use Rattle.shapers_clusters.specs.Steps.{FitsStep, Step, after_steps, old_places, shifted, still_step, widened}
use Rattle.shapers_clusters.proofs.Merging.{length-merge_all}
use Rattle.shapers_clusters.proofs.Picks.{pick-append, pick-map, pick-range, pick-all, pick-within}
use Rattle.shapers_clusters.proofs.ViewedSteps.{PassesMerges, merge-same, merge_all-same, pick-same, after_steps-same, length-same}
use Rattle.shapers_clusters.proofs.Widened.{fits-widened, pick-parts, range-three}
use Rattle.shapers_clusters.proofs.Swaps.{still_moves_merged}
use Rattle.shapers_syllabic.specs.Reordering.{SyllableReordered, carried}

-- the view that a reordering carries along hides fields, and merges pass through it
pub carried_hides : HidesFields carried
carried_hides = search arith

pub carried_passes : PassesMerges carried
carried_passes = search arith

-- changes that don't show stay so through merges, places and steps
pub merge-carried : (level : BufferClusterLevel) (s e : ℕ) (xs ys : Glyphs)
    → map carried xs ≡ map carried ys → map carried (merge level s e xs) ≡ map carried (merge level s e ys)
merge-carried = search (merge-same, carried_passes)

pub merge_all-carried : (level : BufferClusterLevel) (sts : List (ℕ × ℕ)) (xs ys : Glyphs)
    → map carried xs ≡ map carried ys → map carried (merge_all level sts xs) ≡ map carried (merge_all level sts ys)
merge_all-carried = search (arith, merge_all-same)

pub after_steps-carried : (level : BufferClusterLevel) (steps : List Step) (xs ys : Glyphs)
    → map carried xs ≡ map carried ys → map carried (after_steps level steps xs) ≡ map carried (after_steps level steps ys)
after_steps-carried = search (arith, after_steps-same)

-- what is placed, by the places of the whole
pick-in_parts : {X : Type 0} (s e : ℕ) (ps : List ℕ) (xs : List X) → s ≤ e → e ≤ length xs
    → pick (range_with_len 0 s ++ (ps ++ range_with_len e (length xs - e))) xs ≡ take s xs ++ (pick ps xs ++ drop e xs)
pick-in_parts s e ps xs h l =
    let rest = range_with_len e (length xs - e) in
    cc (
      pick-append (range_with_len 0 s) (ps ++ rest) xs,
      pick-range 0 s xs (omega arith),
      pick-append ps rest xs,
      pick-range e (length xs - e) xs (omega arith),
      take_rest xs e,
    )

-- Glyphs placed by the step's places, from s to e: those that the widened step picks; so by a list that lists these.
pub picked-step : {X : Type 0} (s e : ℕ) (ps : List ℕ) (step : Step) (xs : List X) → s ≤ e → e ≤ length xs
    → ps ≡ map (λ p. s + p) step.places → with_stretch s e (λ _. pick ps xs) xs
    ≡ pick (widened s e (length xs) step).places xs
picked-step = search (arith, pick-in_parts)

pub placed-step : {X : Type 0} (s e : ℕ) (places : List ℕ) (step : Step) (xs : List X) → s ≤ e → e ≤ length xs
    → listed s e places ≡ map (λ p. s + p) step.places
    → placed s e places xs ≡ pick (widened s e (length xs) step).places xs
placed-step = search picked-step

-- places picked of all places
picked_range : (n : ℕ) (ps : List ℕ) → AllByRecursion (λ p. p < n) ps → pick ps (range_with_len 0 n) ≡ ps
picked_range n [] h = refl
picked_range n (p ∷ ps) h = cc (
  pick-within 0 p ps (range_with_len 0 n) (omega (arith, length-range_with_len 0 n)),
  get_or-range_with_len 0 n p 0 h.0,
  zero-add p,
  picked_range n ps h.1,
)

pub map-picked : {X Y : Type 0} (f : X → Y) (s e : ℕ) (ps : List ℕ) (xs : List X)
    → map f (with_stretch s e (λ _. pick ps xs) xs) ≡ with_stretch s e (λ _. pick ps (map f xs)) (map f xs)
map-picked = search (map-append, take-map, pick-map, drop-map)

-- Glyphs gs merged as the step merges them first, with changes that don't show: ms. These placed
-- are what the step leads to.
pub moved_by_places : (level : BufferClusterLevel) (s e : ℕ) (step : Step) (ps : List ℕ) (gs ms ns : Glyphs) → s ≤ e
    → e ≤ length gs → FitsStep (e - s) step → step.merged_then ≡ [] → ps ≡ map (λ p. s + p) step.places
    → map carried ms ≡ map carried (merge_all level (shifted s step.merged_first) gs)
    → ns ≡ with_stretch s e (λ _. pick ps ms) ms
    → map carried ns ≡ map carried (after_steps level (map (widened s e (length gs)) (step ∷ [])) gs)
moved_by_places level s e step ps gs ms ns h l f nothing are same is =
    let k : length (merge_all level (shifted s step.merged_first) gs) ≡ length gs =
    length-merge_all level (shifted s step.merged_first) gs (fits-widened s e (length gs) step h l f).first_within in
    let m : length ms ≡ length gs = search (arith, length-same) in
    search (arith, picked-step, pick-same)

-- Where the order view of ms is that of gs with a changed stretch, the placed glyphs have the changed stretch's places.
pub order_by_places : (s e : ℕ) (step : Step) (change : Glyphs → Glyphs) (ps : List ℕ)
    (gs ms ns : Glyphs) → s ≤ e → e ≤ length gs → FitsStep (e - s) step
    → ps ≡ map (λ p. s + p) step.places → length (change (stretch_of s e (order_view gs))) ≡ e - s
    → order_view ms ≡ with_stretch s e change (order_view gs) → ns ≡ with_stretch s e (λ _. pick ps ms) ms
    → order_view ns ≡ with_stretch s e (λ xs. pick step.places (change xs)) (order_view gs)
order_by_places s e step change ps gs ms ns h l f are as_many changed is =
    let xs = order_view gs in
    let a = take s xs in
    let b = change (stretch_of s e xs) in
    let c = drop e xs in
    let n : length xs ≡ length gs = length-map gs plain in
    let an = length-take-le s xs (omega arith) in
    let cn : e + length c ≡ length xs = omega (arith, length-drop e xs) in
    let all : length (a ++ (b ++ c)) ≡ length xs = omega (arith, length-append a (b ++ c), length-append b c) in
    ap order_view is ∙ map-picked plain s e ps ms ∙ ap (λ ys. with_stretch s e (λ _. pick ps ys) ys) changed
    ∙ picked-step s e ps step (a ++ (b ++ c)) h (omega arith) are
    ∙ pick-parts s e (length (a ++ (b ++ c))) step a b c h an as_many (omega arith) f

-- What a body shows that merges and changes its syllable, and then places it: ms are the glyphs before they are placed.
pub record Placed (meaning : Glyphs → Glyphs) (steps : Glyphs
    → List Step) (s e : ℕ) (step : Step) (change : Glyphs → Glyphs) (old new : Buffer)
    (ms : Glyphs) : Type 0 where
  pub in_order : s ≤ e
  pub in_range : e ≤ length old.glyphs
  pub places : List ℕ
  pub others : but_places new ≡ record (but_places old) { glyphs = new.glyphs }
  pub one_step : steps (stretch_of s e (order_view old.glyphs)) ≡ step ∷ []
  pub fits : FitsStep (e - s) step
  pub nothing_then : step.merged_then ≡ []
  pub merged : map carried ms ≡ map carried (merge_all old.level (shifted s step.merged_first) old.glyphs)
  pub changed : order_view ms ≡ with_stretch s e change (order_view old.glyphs)
  pub as_many : length (change (stretch_of s e (order_view old.glyphs))) ≡ e - s
  pub places_are : places ≡ map (λ p. s + p) step.places
  pub placed_are : new.glyphs ≡ with_stretch s e (λ _. pick places ms) ms
  pub meant : meaning (stretch_of s e (order_view old.glyphs))
      ≡ pick step.places (change (stretch_of s e (order_view old.glyphs)))

pub reordered_by_places : (meaning : Glyphs → Glyphs) (steps : Glyphs
    → List Step) (s e : ℕ) (step : Step) (change : Glyphs → Glyphs) (old new : Buffer)
    (ms : Glyphs) → Placed meaning steps s e step change old new ms → SyllableReordered meaning steps s e old new
reordered_by_places = search (arith, order_by_places, moved_by_places)

-- a step in which nothing moves: its merges alone
pub moved_by_merges : (level : BufferClusterLevel) (s e : ℕ) (step : Step) (gs ns : Glyphs) → s ≤ e
    → e ≤ length gs → FitsStep (e - s) step → step.places ≡ range_with_len 0 (e - s) → step.merged_then ≡ []
    → map carried ns ≡ map carried (merge_all level (shifted s step.merged_first) gs)
    → map carried ns ≡ map carried (after_steps level (map (widened s e (length gs)) (step ∷ [])) gs)
moved_by_merges level s e step gs ns h l f stay nothing same =
    let merged = merge_all level (shifted s step.merged_first) gs in
    let k : length merged ≡ length gs = length-merge_all level (shifted s step.merged_first) gs (fits-widened s e
    (length gs) step h l f).first_within in
    cc (range-three s e (length gs) h l, pick-all (length gs) merged k)

-- a syllable in which nothing moves or merges: by the still step, and by no step
pub still_fits : (n : ℕ) → FitsStep n (still_step n)
still_fits n = (still_moves_merged n).fits

pub still_moved : (level : BufferClusterLevel) (s e : ℕ) (gs ns : Glyphs) → s ≤ e → e ≤ length gs
    → map carried ns ≡ map carried gs
    → map carried ns ≡ map carried (after_steps level (map (widened s e (length gs)) (still_step (e - s) ∷ [])) gs)
still_moved = search (moved_by_merges, still_fits)

-- What a body shows that changes its syllable alone, and moves and merges nothing.
pub record Still (meaning : Glyphs → Glyphs) (steps : Glyphs
    → List Step) (s e : ℕ) (old new : Buffer) : Type 0 where
  pub in_order : s ≤ e
  pub in_range : e ≤ length old.glyphs
  pub others : but_places new ≡ record (but_places old) { glyphs = new.glyphs }
  pub still : (steps (stretch_of s e (order_view old.glyphs)) ≡ [])
      ⊎ (steps (stretch_of s e (order_view old.glyphs)) ≡ still_step (e - s) ∷ [])
  pub same : map carried new.glyphs ≡ map carried old.glyphs
  pub changed : order_view new.glyphs ≡ with_stretch s e meaning (order_view old.glyphs)

pub reordered_still : (meaning : Glyphs → Glyphs) (steps : Glyphs → List Step) (s e : ℕ) (old new : Buffer)
    → Still meaning steps s e old new → SyllableReordered meaning steps s e old new
reordered_still meaning steps s e old new p = search (arith, still_moved old.level s e old.glyphs new.glyphs p.in_order p.in_range p.same)

-- a syllable that is left alone
pub stretch_stays : {X : Type 0} (s e : ℕ) (f : List X → List X) (xs : List X) → s ≤ e
    → f (stretch_of s e xs) ≡ stretch_of s e xs → with_stretch s e f xs ≡ xs
stretch_stays s e f xs h same = cc (three_parts s e xs h)

-- a change of the syllable's glyphs that doesn't show, and what it makes of the order view
pub stretch-carried : (s e : ℕ) (change : Glyphs → Glyphs) (gs : Glyphs)
    → s ≤ e → map carried (change (stretch_of s e gs)) ≡ map carried (stretch_of s e gs)
    → map carried (with_stretch s e change gs) ≡ map carried gs
stretch-carried s e change gs h same =
    let a = take s gs in
    let c = drop e gs in
    cc (
      map-append carried a (change (stretch_of s e gs) ++ c),
      map-append carried (change (stretch_of s e gs)) c,
      map-append carried (stretch_of s e gs) c,
      map-append carried a (stretch_of s e gs ++ c),
      three_parts s e gs h,
    )

pub stretch-viewed : (s e : ℕ) (change meant : Glyphs → Glyphs) (gs : Glyphs)
    → order_view (change (stretch_of s e gs)) ≡ meant (order_view (stretch_of s e gs))
    → order_view (with_stretch s e change gs) ≡ with_stretch s e meant (order_view gs)
stretch-viewed = search (arith, map-append, take-map, drop-map)

-- for the laws of an instance: the old places of one step are its places
pub old_places_one : (n : ℕ) (step : Step) → FitsStep n step → old_places n (step ∷ []) ≡ step.places
old_places_one = search (arith, picked_range)

-- a law of the meaning from what one step picks of what shows
pub agrees_by_places : (step : Step) (gs ms : Glyphs) → FitsStep (length gs) step
    → seen carried ms ≡ pick step.places (seen carried gs)
    → seen carried ms ≡ pick (old_places (length gs) (step ∷ [])) (seen carried gs)
agrees_by_places = search old_places_one
