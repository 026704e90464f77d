-- The stages of Indic, whose set-up finds syllables by its grammar.
use Rattle.std.proofs.Common.{◌≡◌, ℕ, Bool, true, false, List, [], ◌∷◌, refl, sym, subst, inl, inr, lit≤, Option, None, Some}
use Rattle.std.specs.Prelude.{Err}
use Rattle.std.specs.List.{list_any}
use Rattle.std.specs.Option.{option_map_or}
use Rattle.std.proofs.lemmas.Bool.{false≢true, or_parts}
use Rattle.shapers_base.specs.Font.{Font, dotted_circle}
use Rattle.shapers_base.specs.declared.plan.hb_ot_shape_plan_t.{hb_ot_shape_plan_t}
use Rattle.shapers_base.specs.declared.plan.pause.Pause.{Pause}
use Rattle.shapers_base.specs.declared.plan.pause.Pause.TheVariants.{SetupSyllablesIndic, SetupSyllablesKhmer, SetupSyllablesMyanmar, SetupSyllablesUse, InitialReordering, ReorderKhmer, ReorderMyanmar, ReorderUse, FinalReordering, RecordStch, RecordRphf, RecordPref, SyllabicClearVar, ClearSubstitutionFlags, ArabicFallbackShape}
use Rattle.shapers_buffer.specs.Buffer.{Buffer}
use Rattle.shapers_buffer.specs.declared.buffer.refusal.ShaperError.TheVariants.{UnknownSyllable}
use Rattle.shapers_indic_initial.specs.InitialPause.{indic_circles}
use Rattle.shapers_spans.specs.Indic.{indic_grammar}
use Rattle.rustybuzz_shapers.specs.FoundSyllables.{PauseRun, RefusesFound}
use Rattle.rustybuzz_shapers.specs.Monotone.{CirclesStayMonotone}
use Rattle.shapers_plan.specs.declared.ot_map.lookups.Stage.{Stage}
use Rattle.shapers_pipeline.specs.Lookups.{lookups_of_stage}
use Rattle.shapers_pipeline.specs.Stages.{StageRun, Substitution, stage_looked_up}
use Rattle.shapers_found_laws.specs.AddsNone.{is_in_category, is_unknown}
use Rattle.shapers_found_laws.specs.FoundIndic.{AreIndicStages, FoundIndicKnows, FoundIndicOpens, FoundIndicSorts, OthersKnow, asks_kinds, ends_asking}
use Rattle.shapers_found_laws.specs.FoundSyllables.{AtMostOneEach}
use Rattle.shapers_found_laws.proofs.AddedNone.{at-most-none, looked-at-most, none-at-most}
use Rattle.shapers_found_laws.proofs.FoundOpenings.{set-up-at-most-one}
use Rattle.shapers_found_laws.proofs.FoundPauses.{AreKnown, PauseKnows, circles-behind, circles-sort, knows-by, known-spans, never-so, paused-by, reordering-knows, stage-knows}
use Rattle.shapers_found_laws.proofs.KeptCategories.{indic-kinds, opens-with-one}
use Rattle.shapers_found_laws.proofs.OnceInRules.{indic-few}

-- ---- rephas

indic-set-up : (plan : hb_ot_shape_plan_t) (font : Font) (old mid : Buffer)
    → PauseRun SetupSyllablesIndic plan font old mid → AtMostOneEach 14 mid.glyphs
indic-set-up plan font old mid run =
    subst (λ (b : Buffer). AtMostOneEach 14 b.glyphs) (sym run.paused)
    (set-up-at-most-one indic_grammar 14 indic-few old.glyphs run.spans run.found)

-- what the initial reordering finds
indic-between : (r : Substitution) (first second : Stage) (behind : List Stage) (old mid : Buffer)
    → AreIndicStages r first second behind → StageRun r first old mid
    → AtMostOneEach 14 (stage_looked_up r second mid).glyphs
indic-between r first second behind old mid are run =
    let looked = stage_looked_up r first old in
    looked-at-most 1 (is_in_category 14) r.substituted (lookups_of_stage second r.list) are.rephas mid
    (indic-set-up r.plan r.font looked mid (paused-by r.plan r.font first.pause SetupSyllablesIndic looked mid are.set_up run))

pub indic-opens : FoundIndicOpens
indic-opens r first second behind old mid are run =
    let text = stage_looked_up r second mid in
    let k = indic_circles in
    circles-behind (r.font.nominal dotted_circle) k.broken_kind k.category k.repha k.position text
    (opens-with-one 14 text.glyphs (indic-between r first second behind old mid are run))

pub indic-sorts : CirclesStayMonotone → FoundIndicSorts
indic-sorts law r first second behind old mid are run sorted =
    let text = stage_looked_up r second mid in
    let k = indic_circles in
    circles-sort law (r.font.nominal dotted_circle) k.broken_kind k.category k.repha k.position text
    (opens-with-one 14 text.glyphs (indic-between r first second behind old mid are run)) sorted

-- ---- kinds

indic-known : (plan : hb_ot_shape_plan_t) (font : Font) (old mid : Buffer)
    → PauseRun SetupSyllablesIndic plan font old mid → AreKnown 5 mid.glyphs
indic-known plan font old mid run =
    subst (λ (b : Buffer). AreKnown 5 b.glyphs) (sym run.paused)
    (known-spans 5 old.glyphs run.spans (lit≤ tt) run.found.cover (indic-kinds old.glyphs run.spans run.found).0)

known-between : (r : Substitution) (first second : Stage) (behind : List Stage) (mid : Buffer)
    → AreIndicStages r first second behind → AreKnown 5 mid.glyphs → AreKnown 5 (stage_looked_up r second mid).glyphs
known-between r first second behind mid are known =
    at-most-none (is_unknown 5) (stage_looked_up r second mid).glyphs
    (looked-at-most 0 (is_unknown 5) r.substituted (lookups_of_stage second r.list) are.kinds mid
    (none-at-most (is_unknown 5) mid.glyphs known))

-- ---- pauses that ask for no kinds

pause-asks-none : (font : Font) (pause : Pause) (b : Buffer) (place : ℕ) → asks_kinds pause ≡ false
    → RefusesFound {T = Bool} pause font b (Err (UnknownSyllable place)) → ⊥
pause-asks-none font SetupSyllablesIndic b place plain refused = never-so place refused
pause-asks-none font SetupSyllablesKhmer b place plain refused = never-so place refused
pause-asks-none font SetupSyllablesMyanmar b place plain refused = never-so place refused
pause-asks-none font SetupSyllablesUse b place plain refused = never-so place refused
pause-asks-none font InitialReordering b place plain refused = false≢true (sym plain)
pause-asks-none font ReorderKhmer b place plain refused = false≢true (sym plain)
pause-asks-none font ReorderMyanmar b place plain refused = false≢true (sym plain)
pause-asks-none font ReorderUse b place plain refused = refused.0
pause-asks-none font FinalReordering b place plain refused = never-so place refused
pause-asks-none font RecordStch b place plain refused = never-so place refused
pause-asks-none font RecordRphf b place plain refused = never-so place refused
pause-asks-none font RecordPref b place plain refused = never-so place refused
pause-asks-none font SyllabicClearVar b place plain refused = never-so place refused
pause-asks-none font ClearSubstitutionFlags b place plain refused = never-so place refused
pause-asks-none font ArabicFallbackShape b place plain refused = never-so place refused

if-asks-none : (plan : hb_ot_shape_plan_t) (font : Font) (pause : Option Pause) (b : Buffer)
    → option_map_or asks_kinds pause false ≡ false → PauseKnows pause plan font b
if-asks-none plan font None b plain = λ place stopped. stopped
if-asks-none plan font (Some pause) b plain = λ place stopped. pause-asks-none font pause b place plain stopped.1

pub others-know : OthersKnow
others-know r refusals [] old left place plain stopped = stopped
others-know r refusals (s ∷ ss) old left place plain (inl stopped) =
    let p = or_parts (ends_asking s) (list_any ends_asking ss) plain in
    stage-knows r refusals s old left place (if-asks-none r.plan r.font s.pause (stage_looked_up r s old) p.0) stopped
others-know r refusals (s ∷ ss) old left place plain (inr later) =
    let p = or_parts (ends_asking s) (list_any ends_asking ss) plain in
    others-know r refusals ss later.0 left place p.1 later.1.1

-- ---- the stages

pub indic-knows : FoundIndicKnows
indic-knows r refusals first second behind old left place are (inl stopped) =
    let looked = stage_looked_up r first old in
    stage-knows r refusals first old left place
    (knows-by r.plan r.font first.pause SetupSyllablesIndic looked are.set_up
    (if-asks-none r.plan r.font (Some SetupSyllablesIndic) looked refl)) stopped
indic-knows r refusals first second behind old left place are (inr (mid, (run, inl stopped))) =
    let looked = stage_looked_up r first old in
    let text = stage_looked_up r second mid in
    let known = known-between r first second behind mid are
    (indic-known r.plan r.font looked mid
    (paused-by r.plan r.font first.pause SetupSyllablesIndic looked mid are.set_up run)) in
    stage-knows r refusals second mid left place
    (knows-by r.plan r.font second.pause InitialReordering text are.reordered
    (λ place stopped. reordering-knows 5 _ text place known stopped.1)) stopped
indic-knows r refusals first second behind old left place are (inr (mid, (run, inr later))) =
    others-know r refusals behind later.0 left place are.others later.1.1
