-- Pauses whose syllables are found by a grammar, and the set-up of syllables that are written
-- already.
use Rattle.std.specs.Prelude.{◌≡◌, Bool, true, false, List, [], Result, IsOk}
use Rattle.shapers_buffer.specs.Buffer.{Buffer}
use Rattle.shapers_buffer.specs.Glyphs.{Glyphs}
use Rattle.shapers_buffer.specs.Syllables.{span_bytes, with_bytes}
use Rattle.shapers_buffer.specs.declared.buffer.refusal.ShaperError.{ShaperError}
use Rattle.shapers_buffer.specs.declared.buffer.syllables.Span.{Span}
use Rattle.shapers_base.specs.Font.{Font}
use Rattle.shapers_base.specs.declared.plan.hb_ot_shape_plan_t.{hb_ot_shape_plan_t}
use Rattle.shapers_base.specs.declared.plan.pause.Pause.{Pause}
use Rattle.shapers_base.specs.declared.plan.pause.Pause.TheVariants.{SetupSyllablesIndic, SetupSyllablesKhmer, SetupSyllablesMyanmar, SetupSyllablesUse}
use Rattle.shapers_spans.specs.Cuts.{AreSpansOf}
use Rattle.shapers_spans.specs.Indic.{indic_grammar}
use Rattle.shapers_spans.specs.Khmer.{khmer_grammar}
use Rattle.shapers_spans.specs.Myanmar.{myanmar_grammar}
use Rattle.shapers_spans.specs.Universal.{universal_grammar}
use Rattle.shapers_syllabic.specs.Syllabic.{setup_by_bytes}
use Rattle.shapers_syllabic.specs.declared.ot_shaper_syllabic.kinds.indic_syllable.TheConstants as indic_syllable
use Rattle.shapers_syllabic.specs.declared.ot_shaper_syllabic.kinds.khmer_syllable.TheConstants as khmer_syllable
use Rattle.shapers_syllabic.specs.declared.ot_shaper_syllabic.kinds.myanmar_syllable.TheConstants as myanmar_syllable
use Rattle.shapers_universal.specs.UniversalSyllables.{setup_by_its_bytes, with_forms_flagged}
use Rattle.rustybuzz_shapers.specs.Pauses.{PauseKeeps, Paused, RefusesPause}

-- whether the pause sets up syllables
abbrev pub sets_up : Pause → Bool
sets_up SetupSyllablesIndic = true
sets_up SetupSyllablesKhmer = true
sets_up SetupSyllablesMyanmar = true
sets_up SetupSyllablesUse = true
sets_up _ = false

-- the spans that a pause takes: those of its grammar, if it sets up syllables
abbrev pub FoundSpans : Pause → Glyphs → List Span → Type 0
FoundSpans SetupSyllablesIndic gs spans = AreSpansOf indic_grammar gs spans
FoundSpans SetupSyllablesKhmer gs spans = AreSpansOf khmer_grammar gs spans
FoundSpans SetupSyllablesMyanmar gs spans = AreSpansOf myanmar_grammar gs spans
FoundSpans SetupSyllablesUse gs spans = AreSpansOf universal_grammar gs spans
FoundSpans _ gs spans = spans ≡ []

-- the buffer before and after these spans are written: the glyphs have their syllable bytes
pub record SpansWritten (pause : Pause) (old new : Buffer) : Type 0 where
  pub spans : List Span
  pub found : FoundSpans pause old.glyphs spans
  pub bytes : new ≡ record old { glyphs = with_bytes old.glyphs (span_bytes 0 spans) }

-- the buffer set up by the syllable bytes that its glyphs have, if the pause sets up syllables
abbrev pub setup_written : Pause → hb_ot_shape_plan_t → Buffer → Buffer
setup_written SetupSyllablesIndic plan b = setup_by_bytes indic_syllable.BROKEN_CLUSTER b
setup_written SetupSyllablesKhmer plan b = setup_by_bytes khmer_syllable.BROKEN_CLUSTER b
setup_written SetupSyllablesMyanmar plan b = setup_by_bytes myanmar_syllable.BROKEN_CLUSTER b
setup_written SetupSyllablesUse plan b =
    with_forms_flagged plan.break_flags plan.plan_data plan.ot_map
    (setup_by_its_bytes plan.plan_data plan.ot_map b)
setup_written _ plan b = b

-- the buffer before and after a pause, whose spans are found by its grammar
pub record PauseRun (pause : Pause) (plan : hb_ot_shape_plan_t) (font : Font) (old new : Buffer)
    : Type 0 where
  pub spans : List Span
  pub found : FoundSpans pause old.glyphs spans
  pub paused : Paused pause plan font spans old new
  pub kept : PauseKeeps pause plan font spans old new

-- when such a pause refuses: never where it sets up syllables, since the spans that are found
-- cover the text
abbrev pub RefusesFound : {T : Type 0} → Pause → Font → Buffer → Result T ShaperError → Type 0
RefusesFound SetupSyllablesIndic font old r = IsOk r
RefusesFound SetupSyllablesKhmer font old r = IsOk r
RefusesFound SetupSyllablesMyanmar font old r = IsOk r
RefusesFound SetupSyllablesUse font old r = IsOk r
RefusesFound pause font old r = RefusesPause pause font [] old r
