-- Halves of a text that share no cluster: no hook and no pause makes a cluster, so what it makes of
-- them shares none either.
use Rattle.std.specs.Prelude.{ℕ, List}
use Rattle.shapers_base.specs.declared.plan.hb_ot_shape_plan_t.{hb_ot_shape_plan_t}
use Rattle.shapers_base.specs.declared.plan.pause.Pause.{Pause}
use Rattle.shapers_base.specs.Font.{Font}
use Rattle.shapers_buffer.specs.Buffer.{Buffer}
use Rattle.shapers_buffer.specs.Glyphs.{Glyphs}
use Rattle.shapers_buffer.specs.declared.buffer.syllables.Span.{Span}
use Rattle.shapers_clusters.specs.Cuts.{ShareNone}
use Rattle.shapers_clusters.specs.FlagLaw.{OnlyFlagsAdded}
use Rattle.shapers_syllabic.specs.CircleLaws.{NoNewCluster}
use Rattle.rustybuzz_shapers.specs.Hooks.{MarksKeep, PostprocessKeeps, PreprocessKeeps}
use Rattle.rustybuzz_shapers.specs.Pauses.{PauseKeeps}
use Rattle.rustybuzz_shapers.specs.declared.shaper.hb_ot_shaper_t.{hb_ot_shaper_t}

-- What a hook makes of a text has no cluster that the text hadn't. (Masks: OnlyFlagsAdded.)
pub record HooksMakeNoCluster : Type 0 where
  pub preprocessing : (shaper : hb_ot_shaper_t) (plan : hb_ot_shape_plan_t) (font : Font)
      (old new : Buffer) → PreprocessKeeps shaper plan font old new →
      NoNewCluster old.glyphs new.glyphs
  pub marks : (shaper : hb_ot_shaper_t) (start end : ℕ) (old new : Buffer) →
      MarksKeep shaper start end old new → NoNewCluster old.glyphs new.glyphs
  pub masks : (gs ms : Glyphs) → OnlyFlagsAdded gs ms → NoNewCluster gs ms
  pub postprocessing : (shaper : hb_ot_shaper_t) (plan : hb_ot_shape_plan_t) (font : Font)
      (old new : Buffer) → PostprocessKeeps shaper plan font old new →
      NoNewCluster old.glyphs new.glyphs

-- and so of each pause
abbrev pub PausesMakeNoCluster : Type 0
PausesMakeNoCluster = (pause : Pause) (plan : hb_ot_shape_plan_t) (font : Font) (spans : List Span)
    (old new : Buffer) → PauseKeeps pause plan font spans old new →
    NoNewCluster old.glyphs new.glyphs

-- what is made of two halves that share no cluster, with no cluster that they hadn't, shares none
abbrev pub HalvesStayApart : Type 0
HalvesStayApart = (gs hs xs ys : Glyphs) →
    NoNewCluster gs xs → NoNewCluster hs ys → ShareNone gs hs → ShareNone xs ys
