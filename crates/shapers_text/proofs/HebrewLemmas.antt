-- Steps of the search for the first three marks.
use Rattle.std.proofs.Common.{◌≡◌, ℕ, ◌+◌, ◌<◌, ◌≤◌, true, false, [], ◌∷◌, length, get_or, take, drop, set, refl, arith, Some, None, Option, Bor}
use Rattle.std.specs.Prelude.{option_map, swap, IfSome, MatchOption}
use Rattle.std.proofs.lemmas.Bool.{false≢true}
use Rattle.std.proofs.lemmas.List.{get_or_read, take-map, drop-map}
use Rattle.std.proofs.lemmas.List.Edits.{swap_is}
use Rattle.shapers_buffer.specs.Glyph.{order_view}
use Rattle.std.proofs.lemmas.Grind.{common_steps}
use Rattle.shapers_buffer.specs.Glyphs.{Glyph, Glyphs}
use Rattle.shapers_buffer.specs.Clusters.{stretch_of}
use Rattle.std.specs.Option.{option_map_or}
use Rattle.shapers_buffer.specs.declared.buffer.level.BufferClusterLevel.{BufferClusterLevel}
use Rattle.shapers_clusters.specs.Flags.{whole}
use Rattle.shapers_clusters.specs.Laws.{ReorderedHold}
use Rattle.shapers_clusters.specs.Steps.{Permutes, MovesMerged, after_step}
use Rattle.shapers_clusters.proofs.Permuted.{still_permutes, swap_permutes}
use Rattle.shapers_clusters.proofs.Proved.{reordered_whole}
use Rattle.shapers_clusters.proofs.Swaps.{still_moves_merged, swap_moves_merged, run-still_step, order_view-swap_step}
use Rattle.shapers_text.specs.Hebrew.{hebrew_mark_step, step_at, marks_swapped, begins_triple, triple_place, second_of_triple}

-- a turn over what is left: its first three glyphs are read, and one is passed
pub record Turn (gs triple rest : Glyphs) : Type 0 where
  pub some : 3 ≤ length gs
  pub front : triple ≡ take 3 gs
  pub left : rest ≡ drop 1 gs

pub turn : (o : Option (Bor Glyphs)) (x : Bor Glyphs) (none : Type 0) (size : ℕ)
    (gs rest : Glyphs) → o ≡ Some x → size ≡ 3
    → MatchOption o none (λ y. (size ≤ length gs) × (y.now ≡ take size gs) × (rest ≡ drop 1 gs) × (length y.now ≡ size))
    → Turn gs x.now rest
turn o x none = search arith

-- and after the last turn fewer than three are left
pub short : (same : Type 0) (o : Option (Bor Glyphs)) (some : Bor Glyphs → Type 0) (size : ℕ) (gs : Glyphs) → o ≡ None
    → size ≡ 3 → MatchOption o ((length gs < size) × same) some → length gs < 3
short = search arith

-- one turn of the search: what is left opens with the three, or one glyph less is left
pub triple_hit : (gs w : Glyphs) (second : ℕ) → w ≡ take 3 gs → begins_triple w ≡ true
    → option_map (λ k. second + k) (triple_place gs) ≡ Some second
triple_hit [] = search (arith, false≢true)
triple_hit (g ∷ gs) = search arith

pub triple_miss : (gs w rest : Glyphs) (second : ℕ) → 3 ≤ length gs → w ≡ take 3 gs → rest ≡ drop 1 gs
    → begins_triple w ≡ false → option_map (λ k. second + 1 + k) (triple_place rest)
    ≡ option_map (λ k. second + k) (triple_place gs)
triple_miss [] w rest second some is left fails = absurd (omega arith)
triple_miss (g ∷ gs) w rest second some is left fails = search arith

few : (gs : Glyphs) → length gs < 3 → triple_place gs ≡ None
few (a ∷ (b ∷ (c ∷ gs))) h = absurd (omega arith)
few _ h = refl

-- fewer than three are left
pub triple_none : (gs : Glyphs) (second : ℕ) → length gs < 3 → option_map (λ k. second + k) (triple_place gs) ≡ None
triple_none gs second h = cc (few gs h)

abbrev Within : ℕ → Option ℕ → Type 0
Within n o = IfSome o (λ k. k + 2 < n)

triple_within : (gs : Glyphs) → Within (length gs) (triple_place gs)
triple_within [] = tt
triple_within (g ∷ gs) = search (arith, triple_within gs)

moved_within : (start n total : ℕ) (o : Option ℕ) → start + n ≤ total → Within n o
    → IfSome (option_map (λ k. start + k + 1) o) (λ k. k + 1 < total)
moved_within start n total None fits h = tt
moved_within start n total (Some k) fits h = omega arith

pub second_within : (gs : Glyphs) (start end : ℕ) → start ≤ end → end ≤ length gs
    → IfSome (second_of_triple start end gs) (λ k. k + 1 < length gs)
second_within gs start end order within =
    let xs = stretch_of start end gs in
    moved_within start (length xs) (length gs) (triple_place xs) (grind (arith, common_steps)) (triple_within xs)

-- two neighbours written over each other
pub swapped : (gs : Glyphs) (i : ℕ) (x y : Glyph) → i + 1 < length gs → x ≡ get_or gs i x
    → y ≡ get_or gs (i + 1) y → set (set gs i y) (i + 1) x ≡ swap gs i (i + 1)
swapped = search (arith, get_or_read, swap_is)

-- the step of the marks is one of the smallest
pub mark_moves_merged : (start end : ℕ) (gs : Glyphs)
    → IfSome (second_of_triple start end gs) (λ i. i + 1 < length gs)
    → MovesMerged (length gs) (hebrew_mark_step start end gs)
mark_moves_merged start end gs within = elim (second_of_triple start end gs) as (λ o. IfSome o (λ i. i + 1 < length gs)
    → MovesMerged (length gs) (step_at (length gs) o)) [
      | None ↦ λ w. still_moves_merged (length gs)
      | Some i ↦ λ w. swap_moves_merged (length gs) i w
    ] within

-- the classes of the marks show in the order view
opens_plain : (gs : Glyphs) → begins_triple (order_view gs) ≡ begins_triple gs
opens_plain [] = refl
opens_plain (a ∷ []) = refl
opens_plain (a ∷ (b ∷ [])) = refl
opens_plain (a ∷ (b ∷ (c ∷ gs))) = refl

place_plain : (gs : Glyphs) → triple_place (order_view gs) ≡ triple_place gs
place_plain [] = refl
place_plain (g ∷ gs) = cc (opens_plain (g ∷ gs), place_plain gs)

marks_view_at : (level : BufferClusterLevel) (gs : Glyphs) (o : Option ℕ)
    → IfSome o (λ i. i + 1 < length gs) → order_view (after_step level (step_at (length gs) o) gs)
    ≡ option_map_or (λ i. swap (order_view gs) i (i + 1)) o (order_view gs)
marks_view_at level gs None within = cc (run-still_step level gs)
marks_view_at level gs (Some i) within = order_view-swap_step level gs i within

-- the order view of the step is the rule's
pub marks_view : (level : BufferClusterLevel) (start end : ℕ) (gs : Glyphs)
    → IfSome (second_of_triple start end gs) (λ i. i + 1 < length gs)
    → order_view (after_step level (hebrew_mark_step start end gs) gs) ≡ marks_swapped start end (order_view gs)
marks_view = search (arith, marks_view_at, drop-map, take-map, place_plain)

-- what the step leaves, by the laws
pub mark_laws : (level : BufferClusterLevel) (start end : ℕ) (gs : Glyphs)
    → IfSome (second_of_triple start end gs) (λ i. i + 1 < length gs)
    → ReorderedHold whole level (hebrew_mark_step start end gs ∷ []) gs
    (after_step level (hebrew_mark_step start end gs) gs)
mark_laws level start end gs within =
    reordered_whole level (hebrew_mark_step start end gs ∷ []) gs (mark_moves_merged start end gs within, tt) (
      elim (second_of_triple start end gs) as (λ o. IfSome o (λ i. i + 1 < length gs) → Permutes (length gs) (step_at
          (length gs) o)) [ None ↦ λ w. still_permutes (length gs) | Some i ↦ λ w. swap_permutes (length gs) i w ] within,
      tt,
    )
