-- What changes nothing when it is done again at once.
use Rattle.std.specs.Prelude.{◌≡◌, Bool, true, false, List}
use Rattle.shapers_base.specs.declared.plan.hb_ot_shape_plan_t.{hb_ot_shape_plan_t}
use Rattle.shapers_base.specs.declared.plan.pause.Pause.{Pause}
use Rattle.shapers_base.specs.declared.plan.pause.Pause.TheVariants.{SetupSyllablesIndic, SetupSyllablesKhmer, SetupSyllablesMyanmar, RecordStch, RecordRphf, RecordPref, SyllabicClearVar, ClearSubstitutionFlags, ArabicFallbackShape}
use Rattle.shapers_base.specs.Font.{CharacterTables, Font}
use Rattle.shapers_buffer.specs.Buffer.{Buffer}
use Rattle.shapers_buffer.specs.declared.buffer.syllables.Span.{Span}
use Rattle.rustybuzz_shapers.specs.Hooks.{MasksSet}
use Rattle.rustybuzz_shapers.specs.Pauses.{Paused}
use Rattle.rustybuzz_shapers.specs.declared.shaper.hb_ot_shaper_t.{hb_ot_shaper_t}
use Rattle.rustybuzz_shapers.specs.declared.shaper.hb_ot_shaper_t.TheVariants.{Arabic, Universal}

-- the pauses that set syllables by spans alone, and those that record or clear what a lookup did
abbrev pub sets_or_records : Pause → Bool
sets_or_records SetupSyllablesIndic = true
sets_or_records SetupSyllablesKhmer = true
sets_or_records SetupSyllablesMyanmar = true
sets_or_records RecordStch = true
sets_or_records RecordRphf = true
sets_or_records RecordPref = true
sets_or_records SyllabicClearVar = true
sets_or_records ClearSubstitutionFlags = true
sets_or_records ArabicFallbackShape = true
sets_or_records _ = false

abbrev pub PausesOnce : Type 0
PausesOnce = (pause : Pause) (plan : hb_ot_shape_plan_t) (font : Font) (spans : List Span)
    (old mid new : Buffer) → sets_or_records pause ≡ true →
    Paused pause plan font spans old mid → Paused pause plan font spans mid new → new ≡ mid

-- the shapers whose setting of masks looks at each glyph alone, or does nothing
abbrev pub looks_at_each : hb_ot_shaper_t → Bool
looks_at_each Arabic = false
looks_at_each Universal = false
looks_at_each _ = true

abbrev pub MasksOnce : Type 0
MasksOnce = (shaper : hb_ot_shaper_t) (plan : hb_ot_shape_plan_t) (tables : CharacterTables)
    (old mid new : Buffer) → looks_at_each shaper ≡ true →
    MasksSet shaper plan tables old mid → MasksSet shaper plan tables mid new → new ≡ mid
