-- Where a text of the universal shaper may be broken whose letters don't join, masks of forms
-- included: with Sound.
use Rattle.std.specs.Prelude.{ℕ, ◌<◌, ◌≤◌, ◌≡◌, true, List, All, None, drop, length, map, take}
use Rattle.shapers_buffer.specs.Glyphs.{Glyphs}
use Rattle.shapers_buffer.specs.declared.buffer.syllables.Span.{Span}
use Rattle.shapers_buffer.specs.Buffer.{Buffer}
use Rattle.shapers_buffer.specs.Glyph.{without_flags}
use Rattle.shapers_buffer.specs.Syllables.{spans_cover}
use Rattle.shapers_base.specs.Font.{Font}
use Rattle.shapers_base.specs.Map.{Map}
use Rattle.shapers_base.specs.declared.plan.PlanData.{PlanData}
use Rattle.shapers_base.specs.declared.plan.breaks.BreakFlags.TheVariants.{Sound}
use Rattle.shapers_base.specs.declared.plan.hb_ot_shape_plan_t.{hb_ot_shape_plan_t}
use Rattle.shapers_base.specs.declared.plan.pause.Pause.TheVariants.{SetupSyllablesUse}
use Rattle.shapers_clusters.specs.Breaks.{IsClear}
use Rattle.shapers_syllabic.specs.declared.ot_shaper_syllabic.kinds.use_syllable.TheConstants.{BROKEN_CLUSTER}
use Rattle.shapers_syllabic.specs.Borders.{SetupOfHalves}
use Rattle.shapers_syllabic.specs.ReorderingLaws.{with_mask_by}
use Rattle.shapers_universal.specs.PlanData.{arabic_of}
use Rattle.shapers_universal.specs.UniversalLaws.{setup_by_spans}
use Rattle.shapers_universal.specs.UniversalSyllables.{forms_flagged}
use Rattle.rustybuzz_shapers.specs.Pauses.{Paused}
use Rattle.shapers_break_laws.specs.ScriptBreaks.{FormsOffFlags}
use Rattle.shapers_break_laws.specs.Setup.{SpanBorder}

-- the glyphs with each mask as it is, but for the three glyph flags
abbrev pub flagless : Glyphs → Glyphs
flagless gs = map (with_mask_by without_flags) gs

-- what spans set up of glyphs with Sound, masks of forms included, glyph flags apart
abbrev pub sound_setup : PlanData → Map → List Span → Glyphs → Glyphs
sound_setup kept m spans gs =
    flagless (forms_flagged (arabic_of kept) Sound m (setup_by_spans kept m spans gs))

-- The set-up may be broken at place p: that is a border of spans, and the set-up of the text is
-- that of its halves, masks of forms included, glyph flags and serials apart.
pub record SoundlyBroken (kept : PlanData) (m : Map) (spans : List Span) (p : ℕ) (old new : Buffer)
    : Type 0 where
  pub border : SpanBorder spans p
  pub halves : SetupOfHalves (sound_setup kept m) BROKEN_CLUSTER border.front border.back
      (take p old.glyphs) (drop p old.glyphs) (flagless new.glyphs) old new

-- So at every clear place, whatever the clusters, where letters don't join.
abbrev pub UniversalSoundBreaks : Type 0
UniversalSoundBreaks = (plan : hb_ot_shape_plan_t) (font : Font) (spans : List Span)
    (old new : Buffer) →
    All (λ span. span.kind ≤ 15) spans → spans_cover (length old.glyphs) spans ≡ true →
    plan.break_flags ≡ Sound → arabic_of plan.plan_data ≡ None →
    FormsOffFlags (arabic_of plan.plan_data) plan.ot_map →
    Paused SetupSyllablesUse plan font spans old new →
    (p : ℕ) → 0 < p → p < length new.glyphs → IsClear new.glyphs p →
    SoundlyBroken plan.plan_data plan.ot_map spans p old new
