-- An element moved behind another: in parts, as places, within a stretch, and as the step of a syllable.
use Rattle.shapers_buffer.specs.declared.buffer.placement.Placement.TheVariants.{Forward}
use Rattle.shapers_buffer.specs.Places.{brought_forward, placed_by}
use Rattle.shapers_buffer.proofs.Placements.{brought_parts, brought_within, placed_forward}
use Rattle.std.proofs.Common.{ℕ, ◌+◌, ◌-◌, ◌<◌, ◌≤◌, ◌≡◌, List, [], ◌∷◌, ◌++◌, length, map, take, drop, refl, sym, ◌∙◌, ap, arith}
use Rattle.std.specs.List.{range_with_len}
use Rattle.std.proofs.lemmas.List.{length-append, length-drop, length-take, take_all}
use Rattle.std.proofs.lemmas.List.FromFn.{length-range_with_len}
use Rattle.shapers_buffer.specs.Glyphs.{Glyphs}
use Rattle.shapers_buffer.specs.Buffer.{Buffer, but_places}
use Rattle.shapers_buffer.specs.Clusters.{merge_all, stretch_of, with_stretch}
use Rattle.shapers_buffer.specs.Glyph.{order_view}
use Rattle.shapers_buffer.specs.Places.{pick}
use Rattle.shapers_clusters.specs.Steps.{FitsStep, Step, after_steps, shifted, widened}
use Rattle.shapers_clusters.proofs.Merging.{length-merge_all}
use Rattle.shapers_clusters.proofs.Picks.{pick-append, pick-range}
use Rattle.shapers_clusters.proofs.Widened.{fits-widened, order_view-widened, pick-widened, range-append}
use Rattle.shapers_indic_initial.specs.InitialPositions.{moved_behind}
use Rattle.shapers_syllabic.specs.Reordering.{SyllableReordered, carried}
use Rattle.shapers_syllabic.proofs.ReorderingLemmas.{old_places_one}

-- those behind it, up to the other, come forward to its place
pub moved_is : {X : Type 0} (h j : ℕ) (xs : List X) → h ≤ j → moved_behind h j xs ≡ brought_forward h (h + 1) (j - h) xs
moved_is = search arith

-- within a stretch
pub moved_within : {X : Type 0} (s e h j : ℕ) (xs : List X) → s ≤ e → e ≤ length xs → h ≤ j → j < e - s
    → moved_behind (s + h) (s + j) xs ≡ with_stretch s e (moved_behind h j) xs
moved_within = search (arith, moved_is, brought_within)

pub length-moved : {X : Type 0} (h j : ℕ) (xs : List X) → h ≤ j → j < length xs
    → length (moved_behind h j xs) ≡ length xs
length-moved h j xs l k = simp (length-append, length-take, length-drop) (omega arith)

-- as places
pub pick-moved : {X : Type 0} (h j n : ℕ) (xs : List X) → length xs ≡ n → h ≤ j → j < n
    → pick (moved_behind h j (range_with_len 0 n)) xs ≡ moved_behind h j xs
pick-moved h j n xs e l k =
    let a = range_with_len 0 h in
    let b = range_with_len (h + 1) (j - h) in
    let c = range_with_len (j + 1) (n - (j + 1)) in
    let n1 : n ≡ h + (1 + (n - (h + 1))) = omega arith in
    let n2 : n - (h + 1) ≡ (j - h) + (n - (j + 1)) = omega arith in
    let split : range_with_len 0 n ≡ a ++ h ∷ (b ++ c) =
    search (arith, range-append) in
    search (
      arith,
      moved_is h j (a ++ h ∷ (b ++ c)) l,
      brought_parts a (h ∷ []) b c h (h + 1) (j - h) (length-range_with_len 0 h) refl
          (length-range_with_len (h + 1) (j - h)),
      pick-append a (b ++ h ∷ c) xs,
      pick-append b (h ∷ c) xs,
      pick-append (h ∷ []) c xs,
      pick-range 0 h xs (omega arith),
      pick-range (h + 1) (j - h) xs (omega arith),
      pick-range h 1 xs (omega arith),
      pick-range (j + 1) (n - (j + 1)) xs (omega arith),
      take_all (n - (j + 1)) (drop (j + 1) xs) (omega (arith, length-drop (j + 1) xs)),
    )

-- one step of a syllable
pub stepped : (meaning : Glyphs → Glyphs) (steps : Glyphs
    → List Step) (s e : ℕ) (step : Step) (old new : Buffer) → s ≤ e → e ≤ length old.glyphs → FitsStep (e - s) step
    → step.merged_then ≡ [] → but_places new ≡ record (but_places old) { glyphs = new.glyphs }
    → new.glyphs ≡ with_stretch s e (pick step.places) (merge_all old.level (shifted s step.merged_first) old.glyphs)
    → meaning (stretch_of s e (order_view old.glyphs)) ≡ pick step.places (stretch_of s e (order_view old.glyphs))
    → steps (stretch_of s e (order_view old.glyphs)) ≡ step ∷ [] → SyllableReordered meaning steps s e old new
stepped meaning steps s e step old new h l f nothing kept is meant leads =
    let gs = old.glyphs in
    let xs = order_view gs in
    let ms = merge_all _ (shifted s step.merged_first) gs in
    let w = widened s e _ step in
    let same =
    length-merge_all _ _ gs (fits-widened s e _ step h l f).first_within in
    let run =
    is ∙ sym (pick-widened s e step ms h (omega arith) f.within) ∙ ap (λ n. pick (widened s e n step).places ms) same
    ∙ sym (ap (λ sts. merge_all old.level (shifted s sts) (pick w.places ms)) nothing) in
    record {
      others = kept;
      order =
          ap order_view run ∙ order_view-widened _ s e (step ∷ []) gs h l (f, tt)
          ∙ ap (λ ps. take s xs ++ (pick ps (stretch_of s e xs) ++ drop e xs)) (old_places_one (e - s) step f)
          ∙ ap (λ ys. take s xs ++ (ys ++ drop e xs)) (sym meant);
      moved = ap (map carried) run
          ∙ sym (ap (λ sts. map carried (after_steps old.level (map (widened s e (length gs)) sts) gs)) leads);
    }

-- the move as a placement
pub placed_behind : (from end : ℕ) (old new : Buffer) → from < end → end ≤ length old.glyphs
    → new ≡ (let r : Buffer = record old {
      glyphs = placed_by (Forward from (from + 1) (end - from - 1)) from end old.places old.glyphs;
    } in r) → new.glyphs ≡ moved_behind from (end - 1) old.glyphs
placed_behind from end old new l r is = search (
  arith,
  placed_forward from (from + 1) (end - from - 1) from end old.places old.glyphs (omega arith) (omega arith)
      (omega arith) r,
)
