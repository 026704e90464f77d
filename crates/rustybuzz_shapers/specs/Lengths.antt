-- How long a text gets, and which length is enough for it.
use Rattle.std.specs.Prelude.{ℕ, ◌+◌, ◌*◌, ◌≤◌, ◌≡◌, ◌≢◌, Bool, List, length, Option, None, Some, Result, Err, IsOkUnless}
use Rattle.std.specs.List.{count_by}
use Rattle.shapers_base.specs.declared.plan.hb_ot_shape_plan_t.{hb_ot_shape_plan_t}
use Rattle.shapers_base.specs.declared.plan.pause.Pause.{Pause}
use Rattle.shapers_base.specs.declared.plan.pause.Pause.TheVariants.{InitialReordering, ReorderKhmer, ReorderMyanmar, ReorderUse}
use Rattle.shapers_base.specs.declared.plan.Preprocess.{Preprocess}
use Rattle.shapers_base.specs.Font.{Font}
use Rattle.shapers_buffer.specs.Buffer.{Buffer}
use Rattle.shapers_buffer.specs.Glyphs.{Glyphs}
use Rattle.shapers_buffer.specs.declared.buffer.refusal.ShaperError.{ShaperError}
use Rattle.shapers_buffer.specs.declared.buffer.refusal.ShaperError.TheVariants.{Memory, TooLong}
use Rattle.shapers_buffer.specs.declared.buffer.syllables.Span.{Span}
use Rattle.shapers_syllabic.specs.Circles.{count_of_kind}
use Rattle.shapers_syllabic.specs.declared.ot_shaper_syllabic.circles.DottedCircles.{DottedCircles}
use Rattle.shapers_text.specs.Thai.{is_sara_am}
use Rattle.rustybuzz_shapers.specs.Hooks.{Preprocessed, RefusesPreprocess}
use Rattle.rustybuzz_shapers.specs.Pauses.{PauseKeeps, RefusesPause, pause_circles}
use Rattle.rustybuzz_shapers.specs.declared.shaper.hb_ot_shaper_t.{hb_ot_shaper_t}
use Rattle.rustybuzz_shapers.specs.declared.shaper.hb_ot_shaper_t.TheVariants.{Hangul, Indic, Khmer, Myanmar, Thai, Universal}

-- The length after preprocessing: for Thai and Lao one more for each SARA AM, for Hangul at most
-- three times the old one, since a syllable character comes apart into three jamo at most.
abbrev pub PreprocessedLength : hb_ot_shaper_t → Glyphs → ℕ → Type 0
PreprocessedLength Thai gs n = n ≡ length gs + count_by (λ g. is_sara_am g.glyph_id) gs
PreprocessedLength Hangul gs n = n ≤ 3 * length gs
PreprocessedLength shaper gs n = n ≡ length gs

abbrev pub PreprocessingGrows : Type 0
PreprocessingGrows =
    (shaper : hb_ot_shaper_t) (plan : hb_ot_shape_plan_t) (font : Font) (old new : Buffer) →
    Preprocessed shaper plan font old new →
    PreprocessedLength shaper old.glyphs (length new.glyphs)

-- after a pause: one more for each broken syllable, where circles are opened
abbrev pub broken_in : Option DottedCircles → Glyphs → ℕ
broken_in None gs = 0
broken_in (Some rule) gs = count_of_kind rule.broken_kind gs

abbrev pub PausesGrow : Type 0
PausesGrow = (pause : Pause) (plan : hb_ot_shape_plan_t) (font : Font) (spans : List Span)
    (old new : Buffer) → PauseKeeps pause plan font spans old new →
    length new.glyphs ≡ length old.glyphs + broken_in (pause_circles pause plan font old) old.glyphs

-- How many times as long preprocessing or a pause makes a text at most: twice by circles.
abbrev pub growth : hb_ot_shaper_t → ℕ
growth Hangul = 3
growth Thai = 2
growth Indic = 2
growth Khmer = 2
growth Myanmar = 2
growth Universal = 2
growth shaper = 1

-- Where there is room for so many glyphs, preprocessing refuses for want of memory alone.
abbrev pub PreprocessingHasRoom : Type 0
PreprocessingHasRoom =
    (shaper : hb_ot_shaper_t) (font : Font) (old : Buffer)
    (r : Result (Option Preprocess) ShaperError) →
    length old.glyphs * growth shaper ≤ old.max_len → RefusesPreprocess shaper font old r →
    IsOkUnless r Memory

-- the same of a pause: the four that may open circles
abbrev pub pause_growth : Pause → ℕ
pause_growth InitialReordering = 2
pause_growth ReorderKhmer = 2
pause_growth ReorderMyanmar = 2
pause_growth ReorderUse = 2
pause_growth pause = 1

-- Where there is room for so many glyphs, no pause finds the text too long.
abbrev pub PausesHaveRoom : Type 0
PausesHaveRoom =
    (pause : Pause) (font : Font) (spans : List Span) (old : Buffer)
    (r : Result Bool ShaperError) →
    length old.glyphs * pause_growth pause ≤ old.max_len → RefusesPause pause font spans old r →
    r ≢ Err TooLong
