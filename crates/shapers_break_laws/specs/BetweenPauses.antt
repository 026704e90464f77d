-- Pauses that stand between the set-up and the reordering of the universal shaper.
use Rattle.std.specs.Prelude.{◌%◌, ◌≡◌, List}
use Rattle.shapers_buffer.specs.Glyphs.{Glyphs}
use Rattle.shapers_buffer.specs.declared.buffer.syllables.Span.{Span}
use Rattle.shapers_buffer.specs.Buffer.{Buffer}
use Rattle.shapers_base.specs.Font.{Font}
use Rattle.shapers_base.specs.declared.plan.hb_ot_shape_plan_t.{hb_ot_shape_plan_t}
use Rattle.shapers_base.specs.declared.plan.pause.Pause.TheVariants.{ClearSubstitutionFlags, RecordPref, RecordRphf}
use Rattle.shapers_universal.specs.PlanData.{rphf_of}
use Rattle.rustybuzz_shapers.specs.Pauses.{Paused}
use Rattle.shapers_break_laws.specs.ChainBreaks.{LeavesSideBySide}
use Rattle.shapers_break_laws.specs.KeptTextBreaks.{FlagsKept}
use Rattle.shapers_break_laws.specs.UniversalChain.{LeavesWhereClear, ReadsOnly, without_glyph_flags}

-- The one buffer is made of the other as the laws of chains require of lookups: side by side, clear
-- only where it was clear, without reading serials or glyph flags, and no flag is taken.
pub record LeavesHalves (old new : Buffer) : Type 0 where
  pub made : Glyphs → Glyphs
  pub level : new.level ≡ old.level
  pub glyphs : new.glyphs ≡ made old.glyphs
  pub side_by_side : (gs : Glyphs) → LeavesSideBySide made gs
  pub where_clear : (gs : Glyphs) → LeavesWhereClear made gs
  pub reads : ReadsOnly without_glyph_flags made
  pub flags : (gs : Glyphs) → FlagsKept gs → FlagsKept (made gs)

-- so what clears marks of substitution, and the records; that of rphf if its mask has no glyph flag
pub record PausesLeaveHalves (plan : hb_ot_shape_plan_t) (font : Font) (spans : List Span)
    (old new : Buffer) : Type 0 where
  pub cleared : Paused ClearSubstitutionFlags plan font spans old new → LeavesHalves old new
  pub rphf : rphf_of plan.plan_data % 8 ≡ 0 → Paused RecordRphf plan font spans old new →
      LeavesHalves old new
  pub pref : Paused RecordPref plan font spans old new → LeavesHalves old new

abbrev pub BetweenPausesLaw : Type 0
BetweenPausesLaw = (plan : hb_ot_shape_plan_t) (font : Font) (spans : List Span)
    (old new : Buffer) → PausesLeaveHalves plan font spans old new

-- and several, one after the other
abbrev pub LeavesHalvesThen : Type 0
LeavesHalvesThen = (old mid new : Buffer) →
    LeavesHalves old mid → LeavesHalves mid new → LeavesHalves old new
