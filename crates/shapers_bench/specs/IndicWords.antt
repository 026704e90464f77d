-- A word of an Indic script behind its stages.
use Rattle.std.specs.Prelude.{◌≡◌, List, [], ◌∷◌, Some}
use Rattle.shapers_base.specs.Font.{Font}
use Rattle.shapers_base.specs.declared.plan.hb_ot_shape_plan_t.{hb_ot_shape_plan_t}
use Rattle.shapers_base.specs.declared.plan.pause.Pause.TheVariants.{FinalReordering, InitialReordering, SetupSyllablesIndic}
use Rattle.shapers_buffer.specs.Buffer.{Buffer}
use Rattle.shapers_buffer.specs.Glyph.{clusters}
use Rattle.shapers_clusters.specs.Cuts.{IsMonotone}
use Rattle.shapers_syllabic.specs.Circles.{circled}
use Rattle.rustybuzz_shapers.specs.Monotone.{AtMostOneRepha}
use Rattle.rustybuzz_shapers.specs.Pauses.{pause_circles}
use Rattle.shapers_plan.specs.declared.ot_map.lookups.Stage.{Stage}
use Rattle.shapers_pipeline.specs.Stages.{StagesRun, stage_looked_up}
use Rattle.shapers_pipeline.specs.declared.singles.Single.{Single}
use Rattle.shapers_bench.specs.Substituted.{substituting}

-- the set-up, the lookup before the initial reordering with that, and the final reordering
abbrev pub set_up : Stage
set_up = record { start = 0; end = 0; pause = Some SetupSyllablesIndic }

abbrev pub reordered_initially : Stage
reordered_initially = record { start = 0; end = 1; pause = Some InitialReordering }

abbrev pub reordered_finally : Stage
reordered_finally = record { start = 1; end = 1; pause = Some FinalReordering }

-- the text that the initial reordering gets of what stands before its stage
abbrev pub text_to_reorder : hb_ot_shape_plan_t → Font → List Single → Buffer → Buffer
text_to_reorder plan font singles before =
    stage_looked_up (substituting plan font singles) reordered_initially before

-- The text before the stage of the initial reordering, and what that and the final one made of it.
-- No syllable that the initial reordering got opens with two rephas where circles open; with these
-- circles clusters rise or fall along the text.
pub record IndicReordered (font : Font) (singles : List Single) (new : Buffer) : Type 0 where
  pub plan : hb_ot_shape_plan_t
  pub before : Buffer
  pub last : Buffer
  pub run : StagesRun (substituting plan font singles)
      (reordered_initially ∷ reordered_finally ∷ []) before last
  pub made : new.glyphs ≡ last.glyphs
  pub alone : let text = text_to_reorder plan font singles before in
      AtMostOneRepha (pause_circles InitialReordering plan font text) text.glyphs
  pub sorted : let text = text_to_reorder plan font singles before in
      let circles = pause_circles InitialReordering plan font text in
      IsMonotone (clusters (circled circles text.glyphs))
