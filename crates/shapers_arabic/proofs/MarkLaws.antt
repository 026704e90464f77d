-- The order of marks in a text: what merging leaves of the parts, and what the laws of steps say.
use Rattle.std.proofs.Common.{◌≡◌, ℕ, ◌+◌, ◌-◌, ◌≤◌, List, [], ◌∷◌, ◌++◌, map, length, take, drop, refl, sym, arith, length-append, length-take, length-drop}
use Rattle.std.proofs.lemmas.List.{length-map, take-map, drop-map, map-append}
use Rattle.shapers_buffer.specs.Glyphs.{Glyph, Glyphs}
use Rattle.shapers_buffer.specs.declared.buffer.level.BufferClusterLevel.{BufferClusterLevel}
use Rattle.shapers_buffer.specs.Clusters.{stretch_of, merge_all}
use Rattle.shapers_buffer.specs.Glyph.{plain, order_view}
use Rattle.shapers_buffer.proofs.MappedLists.{prefix_len-seen}
use Rattle.shapers_buffer.proofs.ClusterLemmas.{map-stretch}
use Rattle.shapers_clusters.specs.Flags.{HidesFields}
use Rattle.shapers_clusters.specs.Laws.{ReorderedHold}
use Rattle.shapers_clusters.specs.Steps.{after_step, shifted, MovesMerged, Permutes}
use Rattle.shapers_clusters.proofs.Merging.{length-merge_all, order_view-merge_all}
use Rattle.shapers_clusters.proofs.Permuted.{permutes-widened}
use Rattle.shapers_clusters.proofs.Proved.{reordered_hold}
use Rattle.shapers_clusters.proofs.Widened.{moves-widened, pick-widened}
use Rattle.shapers_arabic.specs.declared.ot_shaper_arabic.marks.Lengths.{Lengths}
use Rattle.shapers_arabic.specs.MarkParts.{lengths_of}
use Rattle.shapers_arabic.specs.Marks.{Marks, ModifiersTakeClasses, combining_classes, split_marks, in_class, marks_reordered, merged_for, passed, arabic_mark_step, text_step, marks_merged, without_class}
use Rattle.shapers_arabic.proofs.MarkClasses.{class-hidden, reordered_classes}
use Rattle.shapers_arabic.proofs.MarkLists.{joined_parts, split-joined, pick-moved}
use Rattle.shapers_arabic.proofs.MarkMoves.{moves-merged, moves-permute}

-- the parts show in the order view

abbrev marks_of : Glyphs → Glyphs → Glyphs → Glyphs → Glyphs → Marks
marks_of a m b n c = record { low = a; modifiers_below = m; middle = b; modifiers_above = n; rest = c }

abbrev parts_plain : Marks → Marks
parts_plain s =
    marks_of (order_view s.low) (order_view s.modifiers_below) (order_view s.middle) (order_view s.modifiers_above)
    (order_view s.rest)

split-plain : (gs : Glyphs) → split_marks (order_view gs) ≡ parts_plain (split_marks gs)
split-plain = search (arith, prefix_len-seen, take-map, drop-map)

-- marks of one order view have parts of the same lengths
record SameLengths (s t : Marks) : Type 0 where
  low : length s.low ≡ length t.low
  modifiers_below : length s.modifiers_below ≡ length t.modifiers_below
  middle : length s.middle ≡ length t.middle
  modifiers_above : length s.modifiers_above ≡ length t.modifiers_above
  rest : length s.rest ≡ length t.rest

same_lengths : (gs hs : Glyphs) → order_view gs ≡ order_view hs → SameLengths (split_marks gs) (split_marks hs)
same_lengths gs hs =
    let s = split_marks gs in
    let t = split_marks hs in
    search (
      arith,
      length-map,
      split-plain gs,
      split-plain hs,
      length-map s.modifiers_above plain,
      length-map t.modifiers_above plain,
      length-map s.rest plain,
      length-map t.rest plain,
    )

step-same : (s t : Marks) → SameLengths s t → arabic_mark_step s ≡ arabic_mark_step t
step-same = search arith

-- so the merges before the moves leave the lengths of the parts

view-merged_stretch : (level : BufferClusterLevel) (sts : List (ℕ × ℕ)) (s e : ℕ) (gs : Glyphs)
    → order_view (stretch_of s e (merge_all level sts gs)) ≡ order_view (stretch_of s e gs)
view-merged_stretch = search (arith, map-stretch, order_view-merge_all)

pub lengths-merged : (level : BufferClusterLevel) (sts : List (ℕ × ℕ)) (s e : ℕ) (gs ms : Glyphs)
    (p : Lengths) → ms ≡ merge_all level sts gs → p ≡ lengths_of (split_marks (stretch_of s e gs))
    → p ≡ lengths_of (split_marks (stretch_of s e ms))
lengths-merged = search (arith, same_lengths, view-merged_stretch)

pub two_merges : (level : BufferClusterLevel) (s a m b n : ℕ) (gs ms ns : Glyphs)
    → ms ≡ merge_all level (merged_for m s (s + a + m)) gs
    → ns ≡ merge_all level (merged_for n (s + m) (s + a + m + b + n)) ms
    → ns ≡ merge_all level (shifted s (passed a m b n)) gs
two_merges = search arith

-- the order view is reordered as the marks are
classed-plain : (class : ℕ) (gs : Glyphs) → order_view (map (in_class class) gs)
    ≡ map (in_class class) (order_view gs)
classed-plain class [] = refl
classed-plain class (g ∷ gs) = cc (classed-plain class gs)

-- a map of five parts
map-five : (f : Glyph → Glyph) (a b c d e : Glyphs)
    → map f (a ++ (b ++ (c ++ (d ++ e)))) ≡ map f a ++ (map f b ++ (map f c ++ (map f d ++ map f e)))
map-five = search (arith, map-append)

-- a list whose stretch is changed, seen through a map
map-inner : (f : Glyph → Glyph) (s e : ℕ) (inner gs : Glyphs)
    → map f (take s gs ++ (inner ++ drop e gs)) ≡ take s (map f gs) ++ (map f inner ++ drop e (map f gs))
map-inner = search (arith, map-append, take-map, drop-map)

reordered-plain : (s e : ℕ) (gs : Glyphs) → order_view (marks_reordered s e gs) ≡ marks_reordered s e (order_view gs)
reordered-plain s e gs =
    let marks = stretch_of s e gs in
    search (arith, map-inner, map-five, classed-plain, split-plain marks, map-stretch plain s e gs)

pub marks_view : (level : BufferClusterLevel) (s e : ℕ) (gs : Glyphs)
    → order_view (marks_reordered s e (marks_merged level s e gs)) ≡ marks_reordered s e (order_view gs)
marks_view = search (arith, reordered-plain, order_view-merge_all)

-- CLASSES: merging leaves them, and the modifiers take theirs
classes-plain : (gs : Glyphs) → combining_classes (order_view gs) ≡ combining_classes gs
classes-plain [] = refl
classes-plain (g ∷ gs) = cc (classes-plain gs)

pub marks_take_classes : (level : BufferClusterLevel) (s e : ℕ) (gs : Glyphs)
    → ModifiersTakeClasses s e gs (marks_reordered s e (marks_merged level s e gs))
marks_take_classes level s e gs =
    let marks = stretch_of s e gs in
    search (
      arith,
      classes-plain,
      marks_view level s e gs,
      reordered_classes s e (order_view gs),
      take-map plain s gs,
      classes-plain (take s gs),
      map-stretch plain s e gs,
      split-plain marks,
      map-append,
      length-map,
      refl,
      drop-map plain e gs,
      classes-plain (drop e gs),
    )

-- the view that hides classes
class_hidden : HidesFields without_class
class_hidden = search arith

classed-hidden : (class : ℕ) (gs : Glyphs) → map without_class (map (in_class class) gs) ≡ map without_class gs
classed-hidden class [] = refl
classed-hidden class (g ∷ gs) = search (arith, class-hidden, classed-hidden class gs)

-- the five parts are as long as the marks
length-parts : (s e : ℕ) (gs : Glyphs) → s ≤ e → e ≤ length gs
    → (let t = split_marks (stretch_of s e gs) in length t.low + length t.modifiers_below + length t.middle
    + length t.modifiers_above + length t.rest ≡ e - s)
length-parts s e gs h l =
    let marks = stretch_of s e gs in
    let n : length marks ≡ e - s = search (arith, length-take, length-drop) in
    let all : length marks ≡ length (joined_parts (split_marks marks)) = cc (split-joined marks) in
    search (arith, length-append)

step_moves : (s e : ℕ) (gs : Glyphs) → s ≤ e → e ≤ length gs
    → MovesMerged (e - s) (arabic_mark_step (split_marks (stretch_of s e gs)))
step_moves s e gs =
    let t = split_marks (stretch_of s e gs) in
    search (
      arith,
      length-parts,
      moves-merged (length t.low) (length t.modifiers_below) (length t.middle) (length t.modifiers_above)
          (length t.rest),
    )

step_permutes : (s e : ℕ) (gs : Glyphs) → s ≤ e → e ≤ length gs
    → Permutes (e - s) (arabic_mark_step (split_marks (stretch_of s e gs)))
step_permutes = search (arith, length-parts, moves-permute)

-- but for the classes the step gives the reordered marks
step_gives : (level : BufferClusterLevel) (s e : ℕ) (gs : Glyphs) → s ≤ e → e ≤ length gs
    → map without_class (marks_reordered s e (marks_merged level s e gs))
    ≡ map without_class (after_step level (text_step s e gs) gs)
step_gives level s e gs h l =
    let step = arabic_mark_step (split_marks (stretch_of s e gs)) in
    let ms = marks_merged level s e gs in
    let fits = (step_moves s e gs h l).fits in
    let long : length ms ≡ length gs = search (arith, length-merge_all) in
    let marks = stretch_of s e ms in
    let new = split_marks marks in
    search (
      arith,
      map-inner,
      map-five,
      classed-hidden,
      pick-widened s e step ms h (omega arith) fits.within,
      step-same new (split_marks (stretch_of s e gs))
          (same_lengths marks (stretch_of s e gs) (view-merged_stretch level (shifted s step.merged_first) s e gs)),
      pick-moved new marks (sym (split-joined marks)),
    )

-- what the reordering leaves, by the laws
pub mark_laws : (level : BufferClusterLevel) (s e : ℕ) (gs : Glyphs) → s ≤ e → e ≤ length gs
    → ReorderedHold without_class level (text_step s e gs ∷ []) gs (marks_reordered s e (marks_merged level s e gs))
mark_laws =
    search (arith, reordered_hold, class_hidden, moves-widened, step_moves, permutes-widened, step_permutes, step_gives)
