-- The laws of the reordering of one syllable, and of one reordering after another.
use Rattle.std.proofs.Common.{ℕ, ◌<◌, ◌≤◌, ◌≡◌, List, [], ◌∷◌, ◌++◌, map, length, refl, sym, ◌∙◌, ap, subst, arith}
use Rattle.std.specs.List.{AllByRecursion, range_with_len}
use Rattle.std.specs.List.Sorted.{IsPermutation}
use Rattle.shapers_buffer.specs.Glyphs.{Glyph, Glyphs}
use Rattle.shapers_buffer.specs.Clusters.{with_stretch}
use Rattle.shapers_buffer.specs.Glyph.{plain}
use Rattle.shapers_buffer.specs.Places.{pick}
use Rattle.shapers_buffer.proofs.MappedLists.{all-append}
use Rattle.shapers_clusters.specs.Cuts.{EndWithin}
use Rattle.shapers_clusters.specs.Flags.{seen}
use Rattle.shapers_clusters.specs.Steps.{FitSteps, FitsStep, Permutes, Step, old_places}
use Rattle.shapers_clusters.proofs.Moves.{length-old_places, within-old_places}
use Rattle.shapers_clusters.proofs.Picks.{length-pick, pick-all, pick-map, pick-pick}
use Rattle.shapers_clusters.proofs.ViewedSteps.{length-same}
use Rattle.shapers_clusters.proofs.Views.{seen-same}
use Rattle.shapers_indic.specs.Glyphs.{places}
use Rattle.shapers_indic_final.specs.Proved.FinalSteps.{Picks, stretch_permutes, stretch_picks}
use Rattle.shapers_syllabic.specs.Reordering.{carried}
use Rattle.shapers_clusters.proofs.Moves.{old_places_then}
use Rattle.shapers_syllabic.proofs.ReorderingLemmas.{old_places_one}
use Rattle.shapers_clusters.proofs.Permuted.{fits_permuted}

-- that the syllable gs becomes ms by these steps: they fit it, take each place once, and lead there
pub record LawsAt (gs ms : Glyphs) (steps : List Step) : Type 0 where
  pub fits : FitSteps (length gs) steps
  pub permutes : AllByRecursion (Permutes (length gs)) steps
  pub moved : ms ≡ pick (old_places (length gs) steps) gs

pub length_at : (gs ms : Glyphs) (steps : List Step) → LawsAt gs ms steps → length ms ≡ length gs
length_at gs ms steps laws =
    let olds = old_places (length gs) steps in
    ap length laws.moved ∙ length-pick olds gs (within-old_places (length gs) steps)
    ∙ length-old_places (length gs) steps laws.fits

-- one after another
pub then_at : (gs ms ns : Glyphs) (steps more : List Step) → LawsAt gs ms steps → LawsAt ms ns more
    → LawsAt gs ns (steps ++ more)
then_at gs ms ns steps more one two =
    let k : length ms ≡ length gs = length_at gs ms steps one in
    let olds = old_places (length gs) steps in
    record {
      fits = all-append (FitsStep (length gs)) steps more one.fits (subst (λ n. FitSteps n more) k two.fits);
      permutes = all-append (Permutes (length gs)) steps more one.permutes
          (subst (λ n. AllByRecursion (Permutes n) more) k two.permutes);
      moved = two.moved
          ∙ ap (λ n. pick (old_places n more) ms) k
          ∙ ap (pick (old_places (length gs) more)) one.moved
          ∙ pick-pick (old_places (length gs) more) olds gs (within-old_places (length gs) steps)
          ∙ ap (λ ps. pick ps gs) (sym (old_places_then (length gs) steps more one.fits));
    }

-- nothing
pub same_at : (gs ms : Glyphs) → ms ≡ gs → LawsAt gs ms []
same_at gs ms same = record {
  fits = tt;
  permutes = tt;
  moved = same ∙ sym (pick-all (length gs) gs refl);
}

-- to a view of glyphs that are another's to it
pub agrees_at : (xs gs ms : Glyphs) (steps : List Step) → map carried gs ≡ map carried xs
    → LawsAt gs ms steps → seen carried ms ≡ pick (old_places (length xs) steps) (seen carried xs)
agrees_at xs gs ms steps same laws =
    let view : Glyph → Glyph = λ g. plain (carried g) in
    ap (seen carried) laws.moved
    ∙ sym (pick-map view (old_places (length gs) steps) gs)
    ∙ ap (λ n. pick (old_places n steps) (seen carried gs)) (length-same carried gs xs same)
    ∙ ap (pick (old_places (length xs) steps)) (seen-same carried gs xs same)

-- one step
pub step_laws_at : (gs ms : Glyphs) (step : Step) → Permutes (length gs) step
    → EndWithin (length gs) step.merged_first → EndWithin (length gs) step.merged_then → ms ≡ pick step.places gs
    → LawsAt gs ms (step ∷ [])
step_laws_at gs ms step perm first last is =
    let fits = fits_permuted (length gs) step perm first last in
    record {
      fits = (fits, tt);
      permutes = (perm, tt);
      moved = is ∙ ap (λ ps. pick ps gs) (sym (old_places_one (length gs) step fits));
    }

-- one step that changes a stretch
pub stretch_at : (f : List ℕ → List ℕ) (g : Glyphs → Glyphs) → Picks f g
    → ((ps : List ℕ) → IsPermutation ps (f ps)) → (i k : ℕ) (step : Step) (gs : Glyphs) → i < k
    → k ≤ length gs → step.places ≡ with_stretch i k f (places 0 (length gs)) → EndWithin (length gs) step.merged_first
    → EndWithin (length gs) step.merged_then → LawsAt gs (with_stretch i k g gs) (step ∷ [])
stretch_at f g picks permutes i k step gs h l is first last =
    let n = length gs in
    let low : i ≤ k = omega arith in
    let perm : Permutes n step =
    subst (IsPermutation (range_with_len 0 n)) (sym is) (stretch_permutes f permutes i k n low) in
    step_laws_at gs (with_stretch i k g gs) step perm first last
    (sym (ap (λ ps. pick ps gs) is ∙ stretch_picks f g picks i k n gs h l refl))
