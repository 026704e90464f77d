-- What the steps of a syllable merge, as a statement.
use Rattle.std.specs.Prelude.{ℕ, ◌+◌, ◌≡◌, ◌++◌, ◌∷◌, true, List, length, Option}
use Rattle.shapers_clusters.specs.Cuts.{AllDifferent, ExactCuts, OwnClusters}
use Rattle.shapers_buffer.specs.Glyphs.{Glyphs}
use Rattle.shapers_buffer.specs.declared.buffer.level.BufferClusterLevel.{BufferClusterLevel}
use Rattle.shapers_buffer.specs.declared.buffer.tag.Script.{Script}
use Rattle.shapers_buffer.specs.Clusters.{merges, stretch_of}
use Rattle.shapers_buffer.specs.Places.{pick}
use Rattle.shapers_clusters.specs.Labels.{MergedStay}
use Rattle.shapers_clusters.specs.Steps.{all_merged, joined_steps, old_places}
use Rattle.shapers_buffer.specs.Syllables.{syllables}
use Rattle.shapers_indic_final.specs.FinalReordering.{final_steps}
use Rattle.shapers_syllabic.specs.Reordering.{glyphs_before}
use Rattle.shapers_indic_final.specs.declared.ot_shaper_indic_final.rules.Rules.{Rules}

-- at the levels that merge, each stretch of places that the steps of a syllable merge is in one
-- cluster when all are done
abbrev pub FinalMergesLaw : Type 0
FinalMergesLaw = (r : Rules) (script : Option Script) (level : BufferClusterLevel)
    (gs : Glyphs) (cs : List ℕ) →
    merges level ≡ true → length cs ≡ length gs →
    MergedStay level (final_steps r script gs) cs

-- and where all clusters are different no more is merged: neighbours share one then only if such a
-- stretch holds both, and each stretch so joined has the least that its glyphs had
abbrev pub FinalCutsLaw : Type 0
FinalCutsLaw = (r : Rules) (script : Option Script) (level : BufferClusterLevel)
    (gs : Glyphs) (cs : List ℕ) →
    merges level ≡ true → length cs ≡ length gs → AllDifferent cs →
    let steps = final_steps r script gs in
    ExactCuts (pick (old_places (length gs) steps) cs) (all_merged steps)
    (joined_steps level steps cs)

-- so of each syllable of a text gs (its order view) with clusters of its own: cs before, js after
abbrev pub EachSyllableCuts : Rules → Option Script → Glyphs → List ℕ → List ℕ →
    Type 0
EachSyllableCuts r script gs cs js =
    (before behind : List Glyphs) (syl : Glyphs) →
    syllables gs ≡ before ++ syl ∷ behind →
    let s = glyphs_before before in
    let e = s + length syl in
    let steps = final_steps r script syl in
    OwnClusters s e cs →
    ExactCuts (pick (old_places (length syl) steps) (stretch_of s e cs)) (all_merged steps)
    (stretch_of s e js)
