-- What hooks and pauses require of their callers, condition by condition, and where calls that
-- test this stop.
use Rattle.std.specs.Prelude.{ℕ, ◌≡◌, ◌≤◌, List, [], All, length, Result, Ok, Err}
use Rattle.shapers_buffer.specs.Buffer.{Buffer}
use Rattle.shapers_buffer.specs.declared.buffer.refusal.ShaperError.{ShaperError}
use Rattle.shapers_buffer.specs.declared.buffer.syllables.Span.{Span}
use Rattle.shapers_base.specs.declared.plan.hb_ot_shape_plan_t.{hb_ot_shape_plan_t}
use Rattle.shapers_base.specs.declared.plan.pause.Pause.{Pause}
use Rattle.shapers_arabic.specs.PlanData.{IsArabic}
use Rattle.rustybuzz_shapers.specs.Hooks.{GlyphsFit, MarksFit, PlanFits}
use Rattle.rustybuzz_shapers.specs.Pauses.{PauseFits}
use Rattle.rustybuzz_shapers.specs.declared.shaper.checked.CallError.{CallError}
use Rattle.rustybuzz_shapers.specs.declared.shaper.checked.CallError.TheVariants as call
use Rattle.rustybuzz_shapers.specs.declared.shaper.checked.Condition.{Condition}
use Rattle.rustybuzz_shapers.specs.declared.shaper.checked.Condition.TheVariants.{Positions, Range, Marks, PlanData, Glyphs, SpanKinds}
use Rattle.rustybuzz_shapers.specs.declared.shaper.hb_ot_shaper_t.{hb_ot_shaper_t}
use Rattle.rustybuzz_shapers.specs.declared.shaper.hb_ot_shaper_t.TheVariants.{Arabic}

-- what each condition is for preprocessing; what isn't named isn't required
abbrev pub preprocess_asks : Buffer → Condition → Type 0
preprocess_asks b Positions = b.positions ≡ []
preprocess_asks b _ = Unit {0}

-- for setting masks
abbrev pub masks_ask : hb_ot_shaper_t → hb_ot_shape_plan_t → Buffer → Condition → Type 0
masks_ask shaper plan b Positions = b.positions ≡ []
masks_ask shaper plan b PlanData = PlanFits shaper plan
masks_ask shaper plan b Glyphs = GlyphsFit shaper plan b.glyphs
masks_ask shaper plan b _ = Unit {0}

-- for reordering the marks from start to end
abbrev pub marks_ask : hb_ot_shaper_t → ℕ → ℕ → Buffer → Condition → Type 0
marks_ask shaper start end b Positions = b.positions ≡ []
marks_ask shaper start end b Range = (start ≤ end) × (end ≤ length b.glyphs)
marks_ask shaper start end b Marks = MarksFit shaper start end
marks_ask shaper start end b _ = Unit {0}

-- for postprocessing
abbrev pub postprocess_asks : hb_ot_shaper_t → hb_ot_shape_plan_t → Buffer → Condition → Type 0
postprocess_asks shaper plan b Positions = length b.positions ≡ length b.glyphs
postprocess_asks Arabic plan b PlanData = IsArabic plan.plan_data
postprocess_asks Arabic plan b Glyphs = All (λ g. g.glyph_id ≤ 65535) b.glyphs
postprocess_asks shaper plan b _ = Unit {0}

-- for a pause
abbrev pub pause_asks : Pause → hb_ot_shape_plan_t → List Span → Buffer → Condition → Type 0
pause_asks pause plan spans b Positions = b.positions ≡ []
pause_asks pause plan spans b PlanData = PauseFits pause plan
pause_asks pause plan spans b SpanKinds = All (λ span. span.kind ≤ 15) spans
pause_asks pause plan spans b _ = Unit {0}

-- all conditions before one are met
abbrev pub MetBefore : (Condition → Type 0) → Condition → Type 0
MetBefore asks Positions = Unit {0}
MetBefore asks Range = asks Positions
MetBefore asks Marks = asks Positions × asks Range
MetBefore asks PlanData = asks Positions × asks Range × asks Marks
MetBefore asks Glyphs = asks Positions × asks Range × asks Marks × asks PlanData
MetBefore asks SpanKinds = asks Positions × asks Range × asks Marks × asks PlanData × asks Glyphs

-- all are met; or this is the first that isn't
abbrev pub AllMet : (Condition → Type 0) → Type 0
AllMet asks = MetBefore asks SpanKinds × asks SpanKinds

abbrev pub IsFirstUnmet : (Condition → Type 0) → Condition → Type 0
IsFirstUnmet asks c = MetBefore asks c × (asks c → ⊥)

-- a test of all: the first that isn't met
abbrev pub FirstUnmet : {T : Type 0} → (Condition → Type 0) → Result T Condition → Type 0
FirstUnmet asks (Ok _) = AllMet asks
FirstUnmet asks (Err c) = IsFirstUnmet asks c

-- a call that tests them first stops exactly at the first that isn't met
abbrev pub StopsAt : {T : Type 0} → (Condition → Type 0) → Result T CallError → Type 0
StopsAt asks (Ok _) = AllMet asks
StopsAt asks (Err (call.Condition c)) = IsFirstUnmet asks c
StopsAt asks (Err (call.Refused _)) = AllMet asks

-- and else refuses as the hook does
abbrev pub AsRefused : {T : Type 0} → (Result T ShaperError → Type 0) → Result T CallError → Type 0
AsRefused Refuses (Ok x) = Refuses (Ok x)
AsRefused Refuses (Err (call.Refused e)) = Refuses (Err e)
AsRefused Refuses (Err (call.Condition _)) = Unit {0}
