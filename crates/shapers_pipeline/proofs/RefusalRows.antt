-- Which error comes from which step, and which never does.
use Rattle.std.proofs.Common.{◌≡◌, ◌+◌, ◌==◌, ℕ, Bool, true, false, not, List, [], ◌∷◌, length, refl, inl, inr}
use Rattle.std.specs.Prelude.{None, Some}
use Rattle.std.proofs.lemmas.Bool.{false≢true}
use Rattle.shapers_arabic.specs.PlanData.{IsArabic}
use Rattle.shapers_base.specs.Font.{Font}
use Rattle.shapers_base.specs.declared.plan.hb_ot_shape_plan_t.{hb_ot_shape_plan_t}
use Rattle.shapers_base.specs.declared.plan.pause.Pause.TheVariants.{RecordStch, ReorderKhmer, SetupSyllablesIndic, SetupSyllablesKhmer, SetupSyllablesMyanmar, SetupSyllablesUse}
use Rattle.shapers_buffer.specs.Buffer.{Buffer, new_buffer}
use Rattle.shapers_buffer.specs.declared.buffer.refusal.ShaperError.{ShaperError}
use Rattle.shapers_buffer.specs.declared.buffer.refusal.ShaperError.TheVariants.{Memory, TooLong, UnknownSyllable, SpansDontCover, StretchOverflow}
use Rattle.shapers_khmer.specs.Plan.{is_khmer_data}
use Rattle.shapers_universal.specs.PlanData.{is_universal}
use Rattle.shapers_plan.specs.declared.ot_map.lookups.Stage.{Stage}
use Rattle.shapers_plan.specs.declared.ot_map.lookups.StageLookup.{StageLookup}
use Rattle.rustybuzz_shapers.specs.declared.shaper.checked.CallError.{CallError}
use Rattle.rustybuzz_shapers.specs.declared.shaper.checked.CallError.TheVariants as call
use Rattle.rustybuzz_shapers.specs.declared.shaper.checked.Condition.TheVariants.{Positions, PlanData, Glyphs, SpanKinds}
use Rattle.rustybuzz_shapers.specs.declared.shaper.hb_ot_shaper_t.TheVariants.{Arabic}
use Rattle.shapers_pipeline.specs.Lookups.{LookupRefusals, MayRefuse, StoppedIn}
use Rattle.shapers_pipeline.specs.Positioned.{Positioning, text_advanced, text_positioned}
use Rattle.shapers_pipeline.specs.Prepared.{Preparation, growths, text_in_fractions}
use Rattle.shapers_pipeline.specs.Refusals.{AllHadRoom, IsStopped}
use Rattle.shapers_pipeline.specs.ShaperSteps.{GlyphsFitFor, PlanFitsFor}
use Rattle.shapers_pipeline.specs.Shaped.{FinishStopped, PositionsStopped}
use Rattle.shapers_pipeline.specs.Stages.{IsRefusal, PauseStopped, StageStopped, StagesStopped, Substitution}

-- ---- lookups

-- what a lookup may refuse with, and no more: no lookup finds a syllable or a span wrong
long : MayRefuse (record { too_long = true; memory = false }) TooLong
long = refl

memory_alone : MayRefuse (record { too_long = false; memory = true }) Memory
memory_alone = refl

never_long : MayRefuse (record { too_long = false; memory = true }) TooLong → ⊥
never_long may = absurd (false≢true may)

no_memory : MayRefuse (record { too_long = true; memory = false }) Memory → ⊥
no_memory may = absurd (false≢true may)

no_others : (may : LookupRefusals) (place : ℕ) → (MayRefuse may (UnknownSyllable place) → ⊥)
    × ((MayRefuse may SpansDontCover → ⊥) × (MayRefuse may StretchOverflow → ⊥))
no_others may place = ((λ m. m), ((λ m. m), (λ m. m)))

-- lookup 3 may find a text too long, and each other one may be refused memory; each adds its number to the greatest length
abbrev lookup : ℕ → StageLookup
lookup index = record { index = index; mask = 1; auto_zwnj = true; auto_zwj = true; random = false; per_syllable = false }

abbrev refusals : StageLookup → Buffer → LookupRefusals
refusals l b = record { too_long = l.index == 3; memory = not (l.index == 3) }

abbrev applied : StageLookup → Buffer → Buffer
applied l b = record b { max_len = b.max_len + l.index }

abbrev list : List StageLookup
list = lookup 3 ∷ lookup 4 ∷ []

-- the first refuses, and the text is as it was; or the second, and the first was applied
first_lookup : StoppedIn applied refusals list (new_buffer 10) (new_buffer 10) TooLong
first_lookup = inl (refl, refl)

second_lookup : StoppedIn applied refusals list (new_buffer 10) (new_buffer 13) Memory
second_lookup = inr (inl (refl, refl))

-- memory isn't what the first one says, and with its own refusal the first can't have been applied
other_refusal : StoppedIn applied refusals (lookup 3 ∷ []) (new_buffer 10) (new_buffer 10) Memory → ⊥
other_refusal (inl k) = absurd (false≢true k.0)
other_refusal (inr k) = k

no_lookup : (b : Buffer) (e : ShaperError) → StoppedIn applied refusals [] b b e → ⊥
no_lookup b e k = k

-- a call hands a refusal on as it is; no condition is one
handed_on : IsRefusal (λ e. e ≡ TooLong) (call.Refused TooLong)
handed_on = refl

no_condition : IsRefusal (λ e. Unit {0}) (call.Condition PlanData) → ⊥
no_condition k = k

-- ---- pauses

-- data that aren't the pause's
without_data : (plan : hb_ot_shape_plan_t) (font : Font) (b : Buffer) → b.positions ≡ [] →
    (IsArabic plan.plan_data → ⊥) → PauseStopped RecordStch plan font b (call.Condition PlanData)
without_data plan font b unplaced other = (((unplaced, tt, tt), other), tt)

-- what sets up syllables refuses nothing, memory for their spans least of all
setup_refuses_none : (plan : hb_ot_shape_plan_t) (font : Font) (b : Buffer) (e : ShaperError) →
    (PauseStopped SetupSyllablesIndic plan font b (call.Refused e) → ⊥)
    × ((PauseStopped SetupSyllablesKhmer plan font b (call.Refused e) → ⊥)
    × ((PauseStopped SetupSyllablesMyanmar plan font b (call.Refused e) → ⊥)
    × (PauseStopped SetupSyllablesUse plan font b (call.Refused e) → ⊥)))
setup_refuses_none plan font b e =
    ((λ k. false≢true k.1), ((λ k. false≢true k.1), ((λ k. false≢true k.1), (λ k. false≢true k.1))))

-- its spans fit their condition, so that it stops at no other than the plan's
setup_stops : (plan : hb_ot_shape_plan_t) (font : Font) (b : Buffer) → b.positions ≡ [] →
    (is_universal plan.plan_data ≡ true → ⊥) →
    PauseStopped SetupSyllablesUse plan font b (call.Condition PlanData)
    × (PauseStopped SetupSyllablesUse plan font b (call.Condition SpanKinds) → ⊥)
setup_stops plan font b unplaced other = ((((unplaced, tt, tt), other), tt), (λ k. other k.0.0.3))

-- a record refuses nothing; nor does a reordering whose data are another's
record_refuses_none : (plan : hb_ot_shape_plan_t) (font : Font) (b : Buffer) (e : ShaperError) →
    PauseStopped RecordStch plan font b (call.Refused e) → ⊥
record_refuses_none plan font b e k = false≢true k.1

data_before_memory : (plan : hb_ot_shape_plan_t) (font : Font) (b : Buffer) (e : ShaperError) →
    (is_khmer_data plan.plan_data ≡ true → ⊥) → PauseStopped ReorderKhmer plan font b (call.Refused e) → ⊥
data_before_memory plan font b e other k = other k.0.0.3

-- ---- stages

abbrev run_by : hb_ot_shape_plan_t → Font → Substitution
run_by plan font = record { plan = plan; font = font; substituted = applied; list = list }

-- a stage of both lookups and a pause, and one of the second lookup alone
abbrev first_stage : Stage
first_stage = record { start = 0; end = 2; pause = Some RecordStch }

abbrev second_stage : Stage
second_stage = record { start = 1; end = 2; pause = None }

-- a lookup stops a stage, and so does its pause, with the text behind the lookups
by_lookup : (plan : hb_ot_shape_plan_t) (font : Font) →
    StageStopped (run_by plan font) refusals first_stage (new_buffer 10) (new_buffer 13) (call.Refused Memory)
by_lookup plan font = inl (inr (inl (refl, refl)))

by_pause : (plan : hb_ot_shape_plan_t) (font : Font) → (IsArabic plan.plan_data → ⊥) →
    StageStopped (run_by plan font) refusals first_stage (new_buffer 10) (new_buffer 17) (call.Condition PlanData)
by_pause plan font other = inr (without_data plan font (new_buffer 17) refl other, refl)

-- where there is no pause no condition stops a stage
no_pause : (plan : hb_ot_shape_plan_t) (font : Font) (old new : Buffer) →
    StageStopped (run_by plan font) refusals second_stage old new (call.Condition PlanData) → ⊥
no_pause plan font old new (inl k) = k
no_pause plan font old new (inr k) = k.0

-- the second stage refuses, behind the first
by_second : (plan : hb_ot_shape_plan_t) (font : Font) →
    StagesStopped (run_by plan font) refusals (second_stage ∷ second_stage ∷ []) (new_buffer 10) (new_buffer 14)
    (call.Refused Memory)
by_second plan font = inr (new_buffer 14, (refl, inl (inl (inl (refl, refl)))))

no_stage : (r : Substitution) (b : Buffer) (e : CallError) → StagesStopped r refusals [] b b e → ⊥
no_stage r b e k = k

-- ---- preparation

-- positions come first, then the plan's data, and the glyphs once all steps had room; what refuses comes between
positions_first : (p : Preparation) (b : Buffer) → (b.positions ≡ [] → ⊥) → IsStopped p b b (call.Condition Positions)
positions_first p b placed = ((tt, placed), refl)

data_behind : (p : Preparation) (old new : Buffer) → (old.positions ≡ [] → ⊥) →
    IsStopped p old new (call.Condition PlanData) → ⊥
data_behind p old new placed k = placed k.0.0.0

data_next : (p : Preparation) (b : Buffer) → b.positions ≡ [] → (PlanFitsFor p.shaper p.plan → ⊥) →
    IsStopped p b b (call.Condition PlanData)
data_next p b unplaced other = (((unplaced, tt, tt), other), refl)

glyphs_last : (p : Preparation) (b : Buffer) → b.positions ≡ [] → PlanFitsFor p.shaper p.plan →
    AllHadRoom b.max_len (growths p b) → (GlyphsFitFor p.shaper p.plan (text_in_fractions p b).glyphs → ⊥) →
    IsStopped p b (text_in_fractions p b) (call.Condition Glyphs)
glyphs_last p b unplaced fits room other = (((unplaced, tt, tt, fits), other), (room, refl))

refused_behind : (p : Preparation) (old new : Buffer) (e : ShaperError) → (PlanFitsFor p.shaper p.plan → ⊥) →
    IsStopped p old new (call.Refused e) → ⊥
refused_behind p old new e other k = other k.0.3

-- ---- positions, and what comes behind them

without_positions : (p : Positioning) (b : Buffer) → PositionsStopped p refusals b b Memory
without_positions p b = inl (refl, refl)

abbrev with_lookups : Positioning → Bool → Positioning
with_lookups p applies = record p { applies_gpos = applies; list = list; positioned = applied }

-- a lookup of GPOS refuses a text that has its advances; without GPOS none does
by_positioning : (p : Positioning) (b : Buffer) → let q = with_lookups p true in
    FinishStopped q refusals b (text_advanced q b) (call.Refused TooLong)
by_positioning p b = inl (inr (inl (refl, refl)))

without_gpos : (p : Positioning) (old new : Buffer) (e : ShaperError) →
    PositionsStopped (with_lookups p false) refusals old new e → e ≡ Memory
without_gpos p old new e (inl k) = k.0
without_gpos p old new e (inr k) = absurd k

-- the stretch of marks stops by a condition, with the text positioned; a shaper without it doesn't
by_stretch : (p : Positioning) (b : Buffer) → let q = record p { shaper = Some Arabic } in
    let text = text_positioned q b in
    length text.positions ≡ length text.glyphs → (IsArabic q.plan.plan_data → ⊥) →
    FinishStopped q refusals b text (call.Condition PlanData)
by_stretch p b paired other = inr ((((paired, tt, tt), other), tt), refl)
