-- The walk that reorders syllable by syllable: what it still has to do.
use Rattle.std.proofs.Common.{ℕ, ◌<◌, ◌≤◌, ◌≡◌, List, [], ◌∷◌, map, length, refl, sym, subst, arith}
use Rattle.std.specs.Prelude.{Option}
use Rattle.std.specs.List.{AllByRecursion, prefix_len}
use Rattle.std.proofs.lemmas.List.{length-map}
use Rattle.std.proofs.lemmas.List.Sums.{prefix_len-le-length}
use Rattle.shapers_buffer.specs.Glyphs.{Glyphs}
use Rattle.shapers_buffer.specs.declared.buffer.tag.Script.{Script}
use Rattle.shapers_buffer.specs.Buffer.{Buffer}
use Rattle.shapers_buffer.specs.Glyph.{order_view, plain}
use Rattle.shapers_buffer.specs.SyllableLaws.{BeginsWithSyllable}
use Rattle.shapers_buffer.specs.Syllables.{first_syllable_len, has_byte}
use Rattle.shapers_buffer.proofs.SyllableLaws.{syllables_are_longest}
use Rattle.shapers_clusters.specs.Flags.{seen}
use Rattle.shapers_clusters.specs.Steps.{Step, old_places}
use Rattle.shapers_clusters.proofs.Moves.{length-old_places, within-old_places}
use Rattle.shapers_clusters.proofs.Picks.{length-pick}
use Rattle.shapers_syllabic.specs.declared.ot_shaper_syllabic.circles.DottedCircles.{DottedCircles}
use Rattle.shapers_syllabic.specs.Circles.{circled}
use Rattle.shapers_syllabic.specs.Reordering.{PauseReordered, SyllablesReordered, carried}
use Rattle.shapers_syllabic.specs.ReorderingLaws.{ReorderLaws}

-- the pieces of a text: each syllable's length and its steps
abbrev pub pieces_of : (Glyphs → List Step) → List Glyphs → List (ℕ × List Step)
pieces_of steps pieces = map (λ syl. (length syl, steps syl)) pieces

-- a syllable has as many glyphs after
pub length-meaning : (meaning : Glyphs → Glyphs) (steps : Glyphs → List Step)
    → ReorderLaws meaning steps → (gs : Glyphs) → length (meaning gs) ≡ length gs
length-meaning meaning steps laws gs =
    let olds = old_places (length gs) (steps gs) in
    cc (
      length-map (meaning gs) (λ g. plain (carried g)),
      laws.agrees gs,
      length-pick olds (seen carried gs)
          (subst (λ k. AllByRecursion (λ p. p < k) olds) (sym (length-map gs (λ g. plain (carried g))))
          (within-old_places (length gs) (steps gs))),
      length-old_places (length gs) (steps gs) (laws.fits gs),
    )

-- the first syllable, seen in the order view
prefix-view : (byte : ℕ) (gs : Glyphs) → prefix_len (has_byte byte) (order_view gs) ≡ prefix_len (has_byte byte) gs
prefix-view byte [] = refl
prefix-view byte (g ∷ gs) = cc (prefix-view byte gs)

pub first_len-view : (gs : Glyphs) → first_syllable_len (order_view gs) ≡ first_syllable_len gs
first_len-view [] = refl
first_len-view (g ∷ gs) = search (arith, prefix-view)

-- a text that isn't empty opens with a syllable, which isn't longer than it
pub opens : (gs : Glyphs) → 0 < length gs → BeginsWithSyllable gs
opens [] h = absurd (omega arith)
opens (g ∷ gs) h = syllables_are_longest g gs

pub first_len-within : (gs : Glyphs) → first_syllable_len gs ≤ length gs
first_len-within [] = omega arith
first_len-within (g ∷ gs) = search (arith, prefix_len-le-length)

-- a buffer with its circles, and then reordered
pub pause_reordered : (circles : Option DottedCircles) (meaning : Option Script → Glyphs
    → Glyphs) (steps : Option Script → Glyphs → List Step) (old opened new : Buffer)
    → opened ≡ record old { glyphs = circled circles old.glyphs }
    → SyllablesReordered (meaning opened.script) (steps opened.script) opened new
    → PauseReordered circles (meaning old.script) (steps old.script) old new
pause_reordered = search arith
