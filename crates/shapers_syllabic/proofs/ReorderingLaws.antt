-- The laws of reordering syllable by syllable, proved: nothing is lost, and the laws of steps hold of a text.
use Rattle.std.proofs.Common.{ℕ, ◌≡◌, List, [], ◌∷◌, map, length, refl, sym, subst, arith, length-append}
use Rattle.std.specs.List.{AllByRecursion, flat_map, sum_by}
use Rattle.std.specs.List.Sorted.{IsPermutation}
use Rattle.std.proofs.lemmas.List.{length-map, map-append}
use Rattle.std.proofs.lemmas.List.Sorted.{IsPermutation-append, IsPermutation-map, IsPermutation-refl}
use Rattle.std.proofs.lemmas.List.Sums.{sum_by-cons}
use Rattle.shapers_buffer.specs.Glyphs.{Glyphs}
use Rattle.shapers_buffer.specs.declared.buffer.level.BufferClusterLevel.TheVariants.{Characters}
use Rattle.shapers_buffer.specs.Glyph.{order_view, plain}
use Rattle.shapers_buffer.specs.Syllables.{syllables}
use Rattle.shapers_clusters.specs.Flags.{seen}
use Rattle.shapers_clusters.specs.Steps.{after_steps, FitSteps, FitsStep, MovesMerged, Permutes, Step, steps_along}
use Rattle.shapers_clusters.proofs.Proved.{along_holds, reordered_hold, seen_steps_hold}
use Rattle.shapers_clusters.proofs.Views.{seen-permuted, seen-after_steps, seen-same}
use Rattle.shapers_syllabic.specs.Reordering.{carried, glyph_numbers, text_order, text_steps}
use Rattle.shapers_syllabic.specs.ReorderingLaws.{ReorderLaws, ReorderingLosesNothing, TextReorderedLaw}
use Rattle.shapers_syllabic.proofs.CircleLaws.{joined-syllables}
use Rattle.shapers_syllabic.proofs.ReorderingLemmas.{carried_hides}
use Rattle.shapers_syllabic.proofs.ReorderingWalk.{pieces_of}

-- what a syllable becomes has what it had
kept_syllable : (meaning : Glyphs → Glyphs) (steps : Glyphs → List Step) → ReorderLaws meaning steps → (gs : Glyphs)
    → IsPermutation (seen carried gs) (seen carried (meaning gs))
kept_syllable meaning steps laws gs = search (arith, seen-after_steps carried carried_hides Characters (steps gs) gs, seen-permuted carried carried_hides Characters (steps gs) gs (laws.fits gs) (laws.permutes gs))

kept_pieces : (meaning : Glyphs → Glyphs) (steps : Glyphs → List Step)
    → ReorderLaws meaning steps → (pieces : List Glyphs)
    → IsPermutation (seen carried (flat_map (λ piece. piece) pieces)) (seen carried (flat_map meaning pieces))
kept_pieces meaning steps laws [] = IsPermutation-refl []
kept_pieces meaning steps laws (piece ∷ pieces) =
    search (arith, map-append, IsPermutation-append, kept_syllable, kept_pieces meaning steps laws pieces)

pub numbers-seen : (gs : Glyphs) → map (λ g. g.glyph_id) (seen carried gs) ≡ map (λ g. g.glyph_id) gs
numbers-seen [] = refl
numbers-seen (g ∷ gs) = cc (numbers-seen gs)

-- what a syllable becomes has the numbers that it had
pub numbers_kept : (meaning : Glyphs → Glyphs) (steps : Glyphs → List Step) → ReorderLaws meaning steps
    → (gs : Glyphs) → IsPermutation (glyph_numbers gs) (glyph_numbers (meaning gs))
numbers_kept meaning steps laws gs = search (
  arith,
  numbers-seen gs,
  numbers-seen (meaning gs),
  IsPermutation-map (λ g. g.glyph_id) (seen carried gs) (seen carried (meaning gs))
      (kept_syllable meaning steps laws gs),
)

pub nothing_lost : ReorderingLosesNothing
nothing_lost meaning steps laws gs =
    let kept : IsPermutation (seen carried gs) (seen carried (text_order meaning gs)) = subst (λ xs. IsPermutation
    (seen carried xs) (seen carried (text_order meaning gs))) (joined-syllables gs) (kept_pieces meaning steps laws
    (syllables gs)) in
    search (
      arith,
      numbers-seen gs,
      numbers-seen (text_order meaning gs),
      IsPermutation-map (λ g. g.glyph_id) (seen carried gs) (seen carried (text_order meaning gs)) kept,
    )

-- the pieces of a text add up to it, and what holds of each syllable's steps holds of each piece
pub sum-pieces : (steps : Glyphs → List Step) (pieces : List Glyphs)
    → sum_by (λ piece. piece.0) (pieces_of steps pieces) ≡ length (flat_map (λ piece. piece) pieces)
sum-pieces steps [] = refl
sum-pieces steps (piece ∷ pieces) = search (sum_by-cons, length-append, sum-pieces steps pieces)

pub sum-syllables : (steps : Glyphs → List Step) (gs : Glyphs)
    → sum_by (λ piece. piece.0) (pieces_of steps (syllables gs)) ≡ length gs
sum-syllables = search (sum-pieces, joined-syllables)

pub each_piece : (P : ℕ → Step → Type 0) (steps : Glyphs → List Step)
    → ((gs : Glyphs) → AllByRecursion (P (length gs)) (steps gs)) → (pieces : List Glyphs)
    → AllByRecursion (λ piece. AllByRecursion (P piece.0) piece.1) (pieces_of steps pieces)
each_piece P steps h [] = tt
each_piece P steps h (piece ∷ pieces) = (h piece, each_piece P steps h pieces)

-- the steps of a text, numbered by its glyphs
pub text_steps-long : (steps : Glyphs → List Step) (gs : Glyphs)
    → text_steps steps (order_view gs) ≡ steps_along (length gs) 0 (pieces_of steps (syllables (order_view gs)))
text_steps-long steps gs = cc (length-map gs plain)

pub text_reordered : TextReorderedLaw
text_reordered meaning steps old new laws done =
    let gs = old.glyphs in
    let xs = order_view gs in
    let ps = pieces_of steps (syllables xs) in
    let along = along_holds old.level ps gs
    (search (arith, sum-syllables, length-map)) (each_piece FitsStep steps laws.fits (syllables xs)) in
    let is = text_steps-long steps gs in
    let fits = subst (FitSteps (length gs)) (sym is) along.fit in
    let permutes =
    subst (AllByRecursion (Permutes (length gs))) (sym is)
    (along.permuted (each_piece Permutes steps laws.permutes (syllables xs))) in
    record {
      kept = subst (IsPermutation (seen carried gs))
          (sym (seen-same carried new.glyphs (after_steps old.level (text_steps steps xs) gs) done.moved))
          (seen-permuted carried carried_hides old.level (text_steps steps xs) gs fits permutes);
      glyphs = seen_steps_hold carried carried_hides old.level (text_steps steps xs) gs new.glyphs fits done.moved;
      merged = λ inside. reordered_hold carried carried_hides old.level (text_steps steps xs) gs new.glyphs
          (subst (AllByRecursion (MovesMerged (length gs))) (sym is)
          (along.merged (each_piece MovesMerged steps inside (syllables xs)))) permutes done.moved;
    }
