-- Flags that forbid a break outlive the hooks and pauses that come later.
use Rattle.std.specs.Prelude.{◌≡◌, true, false, List}
use Rattle.shapers_buffer.specs.Glyphs.{Glyphs}
use Rattle.shapers_buffer.specs.declared.buffer.syllables.Span.{Span}
use Rattle.shapers_buffer.specs.Buffer.{Buffer}
use Rattle.shapers_buffer.specs.Clusters.{merges}
use Rattle.shapers_buffer.specs.Glyph.{clusters}
use Rattle.shapers_base.specs.Font.{Font}
use Rattle.shapers_base.specs.declared.plan.hb_ot_shape_plan_t.{hb_ot_shape_plan_t}
use Rattle.shapers_base.specs.declared.plan.pause.Pause.{Pause}
use Rattle.shapers_clusters.specs.Cuts.{IsMonotone}
use Rattle.shapers_clusters.specs.FlagLaw.{OnlyFlagsAdded}
use Rattle.shapers_syllabic.specs.Circles.{circled}
use Rattle.rustybuzz_shapers.specs.Monotone.{reorders_indic}
use Rattle.rustybuzz_shapers.specs.Pauses.{PauseKeeps, pause_circles}
use Rattle.shapers_break_laws.specs.ClearSteps.{ClearWasClear}

-- masks set, and whatever else only adds flags: each clear place was clear before
abbrev pub AddedFlagsClearNone : Type 0
AddedFlagsClearNone = (gs ms : Glyphs) → OnlyFlagsAdded gs ms → ClearWasClear gs ms

-- so of every pause but the reorderings of Indic, of the text with the circles that it opens, where
-- its clusters rise or fall, at the levels that merge
abbrev pub PausesClearNone : Type 0
PausesClearNone = (pause : Pause) (plan : hb_ot_shape_plan_t) (font : Font) (spans : List Span)
    (old new : Buffer) →
    reorders_indic pause ≡ false → merges old.level ≡ true →
    let opened = circled (pause_circles pause plan font old) old.glyphs in
    IsMonotone (clusters opened) → PauseKeeps pause plan font spans old new →
    ClearWasClear opened new.glyphs
