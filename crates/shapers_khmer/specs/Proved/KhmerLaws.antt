-- The laws of the order of a syllable.
use Rattle.std.proofs.Common.{ℕ, get_or, ◌+◌, ◌<◌, ◌≡◌, true, inl, inr, List, [], ◌∷◌, map, length, refl, sym, ◌∙◌, ap, subst, arith}
use Rattle.std.specs.List.{AllByRecursion, range_with_len}
use Rattle.std.proofs.lemmas.List.{length-map}
use Rattle.std.proofs.lemmas.List.Elements.{All-from_recursion, recursion_from_All}
use Rattle.std.proofs.lemmas.List.Sorted.{All-permutation}
use Rattle.std.proofs.lemmas.List.FromFn.{length-range_with_len}
use Rattle.std.proofs.lemmas.Bool.{cases_Bool, true≢false}
use Rattle.shapers_buffer.specs.Glyphs.{Glyph, Glyphs}
use Rattle.shapers_buffer.specs.Glyph.{plain}
use Rattle.shapers_buffer.specs.Places.{pick}
use Rattle.shapers_buffer.proofs.MappedLists.{all-range}
use Rattle.shapers_clusters.specs.Cuts.{EndWithin}
use Rattle.shapers_clusters.specs.Flags.{seen}
use Rattle.shapers_clusters.specs.Steps.{FitsStep, MovesMerged, Permutes, old_places}
use Rattle.shapers_clusters.proofs.Permuted.{still_permutes}
use Rattle.shapers_clusters.proofs.Picks.{pick-all, pick-map}
use Rattle.shapers_clusters.proofs.Swaps.{still_moves_merged}
use Rattle.shapers_clusters.proofs.Views.{seen-same}
use Rattle.shapers_khmer.specs.declared.ot_shaper_khmer.reordering.KhmerOrder.{KhmerOrder}
use Rattle.shapers_khmer.specs.Khmer.{Move, Pair, Vowel, is_reordered_in_khmer, khmer_masked, khmer_moves, khmer_order, khmer_places, khmer_step, khmer_steps, masked, masked_all, masked_for, merged_by_move, moved, moved_all, categories_of, with_mask}
use Rattle.shapers_khmer.specs.Proved.KhmerCases.{cases_end}
use Rattle.shapers_khmer.specs.Proved.KhmerMasks.{carried-masked, carried-with_mask, hidden-masked, length-masked, length-categories}
use Rattle.shapers_khmer.specs.Proved.KhmerMoves.{inside_merged, length-moved_all, permuted-moved_all}
use Rattle.shapers_syllabic.specs.Reordering.{carried}
use Rattle.shapers_syllabic.specs.ReorderingLaws.{ReorderLaws}
use Rattle.shapers_syllabic.proofs.ReorderingLemmas.{agrees_by_places}

-- the order of a syllable takes its places
pub order_within : (moves : List Move) (n : ℕ) → AllByRecursion (λ p. p < n) (moved_all moves (range_with_len 0 n))
order_within moves n =
    let P : ℕ → Type 0 = λ p. p < n in
    let places = range_with_len 0 n in
    recursion_from_All P (moved_all moves places)
    (All-permutation P places (moved_all moves places) (permuted-moved_all moves places)
    (All-from_recursion P places (all-range P 0 n (λ p x y. omega arith))))

pub length-order : (moves : List Move) (n : ℕ) → length (moved_all moves (range_with_len 0 n)) ≡ n
length-order moves n = length-moved_all moves (range_with_len 0 n) ∙ length-range_with_len 0 n

-- the moves of a syllable end within it
pub khmer_ends : (gs : Glyphs) → EndWithin (length gs) (map merged_by_move (khmer_moves gs))
khmer_ends [] = tt
khmer_ends (g ∷ []) = tt
khmer_ends (g ∷ (h ∷ gs)) =
    cases_end (g.category ∷ []) h.category (categories_of gs) 0 (length (g ∷ (h ∷ gs))) (omega arith)
    (omega (arith, length-categories gs))

-- moves go only inside what merges first
pub merged_moves : (moves : List Move) (n : ℕ) → EndWithin n (map merged_by_move moves)
    → MovesMerged n
    (record {
      merged_first = map merged_by_move moves;
      places = moved_all moves (range_with_len 0 n);
      merged_then =
          [];
    })
merged_moves moves n ends = record {
  fits = record {
    as_many = length-order moves n;
    within = order_within moves n;
    first_within = ends;
    then_within = tt;
  };
  inside = inside_merged moves n ends;
  nothing_then = refl;
}

pub khmer_moves_merged : (gs : Glyphs) → MovesMerged (length gs) (khmer_step gs)
khmer_moves_merged gs = elim (cases_Bool (is_reordered_in_khmer gs)) [
  | inl on ↦ rw on (merged_moves (khmer_moves gs) (length gs) (khmer_ends gs))
  | inr off ↦ rw off (still_moves_merged (length gs))
]

pub khmer_fits : (gs : Glyphs) → FitsStep (length gs) (khmer_step gs)
khmer_fits gs = let all = khmer_moves_merged gs in all.fits

pub khmer_permutes : (gs : Glyphs) → Permutes (length gs) (khmer_step gs)
khmer_permutes gs = elim (cases_Bool (is_reordered_in_khmer gs)) [
  | inl on ↦ rw on (permuted-moved_all (khmer_moves gs) (range_with_len 0 (length gs)))
  | inr off ↦ rw off (still_permutes (length gs))
]

-- masks don't show to a view that hides them
hidden-masked_for : {X : Type 0} (f : Glyph → X) → ((m : ℕ) (g : Glyph) → f (with_mask m g) ≡ f g)
    → (r : KhmerOrder) (move : Move) (order : List ℕ) (gs : Glyphs)
    → EndWithin (length gs) (merged_by_move move ∷ []) → map f (masked_for r move order gs) ≡ map f gs
hidden-masked_for f hides r (Vowel over) order gs ends = refl
hidden-masked_for f hides r (Pair over) order gs ends =
    let coeng = get_or order over 0 in
    let ro = get_or order (over + 1) 0 in
    let first = masked r.pref coeng (coeng + 1) gs in
    let second = masked r.pref ro (ro + 1) first in
    let inside = ends.0 in
    hidden-masked f r.cfar (over + 2) (length gs) second (hides r.cfar) inside
    ∙ hidden-masked f r.pref ro (ro + 1) first (hides r.pref) (omega arith)
    ∙ hidden-masked f r.pref coeng (coeng + 1) gs (hides r.pref) (omega arith)

pub length-masked_for : (r : KhmerOrder) (move : Move) (order : List ℕ) (gs : Glyphs)
    → EndWithin (length gs) (merged_by_move move ∷ []) → length (masked_for r move order gs) ≡ length gs
length-masked_for r move order gs ends =
    sym (length-categories (masked_for r move order gs))
    ∙ ap length (hidden-masked_for (λ g. g.category) (λ m g. refl) r move order gs ends) ∙ length-categories gs

pub hidden-masked_all : {X : Type 0} (f : Glyph → X)
    → ((m : ℕ) (g : Glyph) → f (with_mask m g) ≡ f g)
    → (r : KhmerOrder) (moves : List Move) (order : List ℕ) (gs : Glyphs)
    → EndWithin (length gs) (map merged_by_move moves) → map f (masked_all r moves order gs) ≡ map f gs
hidden-masked_all f hides r [] order gs ends = refl
hidden-masked_all f hides r (move ∷ moves) order gs ends =
    let next = masked_for r move order gs in
    let one : EndWithin (length gs) (merged_by_move move ∷ []) = (ends.0, tt) in
    hidden-masked_all f hides r moves (moved move order) next
    (subst (λ n. EndWithin n (map merged_by_move moves)) (sym (length-masked_for r move order gs one)) ends.1)
    ∙ hidden-masked_for f hides r move order gs one

pub carried_khmer_masked : (r : KhmerOrder) (gs : Glyphs) → is_reordered_in_khmer gs ≡ true
    → map carried (khmer_masked r gs) ≡ map carried gs
carried_khmer_masked r [] on = absurd (true≢false (sym on))
carried_khmer_masked r (g ∷ gs) on =
    let all = g ∷ gs in
    let first = masked r.others 1 (length all) all in
    let len : length first ≡ length all = length-masked r.others 1 (length all) all (omega arith) in
    hidden-masked_all carried carried-with_mask r (khmer_moves all) (range_with_len 0 (length all)) first
    (subst (λ n. EndWithin n (map merged_by_move (khmer_moves all))) (sym len) (khmer_ends all))
    ∙ carried-masked r.others 1 (length all) all (omega arith)

-- what a syllable becomes is what its step picks
pub khmer_agrees : (r : KhmerOrder) (gs : Glyphs) → seen carried (khmer_order r gs)
    ≡ pick (old_places (length gs) (khmer_step gs ∷ [])) (seen carried gs)
khmer_agrees r gs =
    agrees_by_places (khmer_step gs) gs (khmer_order r gs) (khmer_fits gs)
    (elim (cases_Bool (is_reordered_in_khmer gs)) [
      | inl on ↦ rw on (let same : map carried (khmer_masked r gs) ≡ map carried gs = carried_khmer_masked r gs on in
          sym (pick-map (λ g. plain (carried g)) (khmer_places gs) (khmer_masked r gs))
          ∙ ap (pick (khmer_places gs)) (seen-same carried (khmer_masked r gs) gs same))
      | inr off ↦ rw off (sym (pick-all (length gs) (seen carried gs) (length-map gs (λ g. plain (carried g)))))
    ])

-- what a pause asks of the order
pub khmer_laws : (r : KhmerOrder) → ReorderLaws (khmer_order r) khmer_steps
khmer_laws r =
    record { fits = λ gs. (khmer_fits gs, tt); permutes = λ gs. (khmer_permutes gs, tt); agrees = khmer_agrees r }
