-- One syllable of a text that is reordered.
use Rattle.std.proofs.Common.{ℕ, ◌+◌, ◌≡◌, List, ◌∷◌, ◌++◌, length, sym, subst, arith, length-append}
use Rattle.std.specs.List.{flat_map}
use Rattle.std.proofs.lemmas.List.{map-append}
use Rattle.std.proofs.lemmas.List.Concat.{flat_map-append}
use Rattle.shapers_buffer.specs.Glyphs.{Glyphs}
use Rattle.shapers_buffer.specs.declared.buffer.level.BufferClusterLevel.{BufferClusterLevel}
use Rattle.shapers_buffer.specs.Clusters.{stretch_of}
use Rattle.shapers_buffer.specs.Syllables.{syllables}
use Rattle.shapers_clusters.specs.Cuts.{StandsApart}
use Rattle.shapers_clusters.specs.Steps.{FitSteps, FitsStep, Step, joined_steps}
use Rattle.shapers_clusters.proofs.Proved.{alone_holds}
use Rattle.shapers_syllabic.specs.Reordering.{glyphs_before, text_steps}
use Rattle.shapers_syllabic.proofs.CircleLaws.{joined-syllables}
use Rattle.shapers_syllabic.proofs.ReorderingLaws.{each_piece, sum-pieces}
use Rattle.shapers_syllabic.proofs.ReorderingWalk.{pieces_of}

-- where it stands
pub glyphs_cut : (gs : Glyphs) (before behind : List Glyphs) (syl : Glyphs)
    → syllables gs ≡ before ++ syl ∷ behind → glyphs_before before + length syl + glyphs_before behind ≡ length gs
glyphs_cut gs before behind syl cut =
    let fb = flat_map (λ piece. piece) before in
    let fh = flat_map (λ piece. piece) behind in
    let is : fb ++ (syl ++ fh) ≡ gs =
    cc (flat_map-append (λ piece. piece) before (syl ∷ behind), joined-syllables gs) in
    let a = length-append fb (syl ++ fh) in
    let b = length-append syl fh in
    search arith

pub pieces_cut : (steps : Glyphs → List Step) (gs : Glyphs)
    (before behind : List Glyphs) (syl : Glyphs) → syllables gs ≡ before ++ syl ∷ behind
    → pieces_of steps (syllables gs) ≡ pieces_of steps before ++ (length syl, steps syl) ∷ pieces_of steps behind
pieces_cut = search (arith, map-append)

-- where no glyph elsewhere has a cluster of it, its clusters become what its own steps make of them
pub syllable_alone : (steps : Glyphs → List Step) → ((gs : Glyphs) → FitSteps (length gs) (steps gs))
    → (level : BufferClusterLevel) (gs : Glyphs) (cs : List ℕ) → length cs ≡ length gs
    → (before behind : List Glyphs) (syl : Glyphs) → syllables gs ≡ before ++ syl ∷ behind
    → StandsApart (glyphs_before before) (glyphs_before before + length syl) cs →
    stretch_of (glyphs_before before) (glyphs_before before + length syl) (joined_steps level (text_steps steps gs) cs)
    ≡ joined_steps level (steps syl) (stretch_of (glyphs_before before) (glyphs_before before + length syl) cs)
syllable_alone steps fits level gs cs long before behind syl cut apart =
    let a = pieces_of steps before in
    let k = length syl in
    let piece : ℕ × List Step = (length syl, steps syl) in
    let all = glyphs_cut gs before behind syl cut in
    let s = sum-pieces steps before in
    let rest = sum-pieces steps behind in
    search (
      pieces_cut steps gs before behind syl cut,
      alone_holds level a (pieces_of steps behind) piece cs (omega arith) (each_piece FitsStep steps fits before)
          (fits syl) (each_piece FitsStep steps fits behind) (subst (λ i. StandsApart i (i + k) cs) (sym s) apart),
    )
