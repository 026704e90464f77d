-- The stages of a plan: the lookups of each, and the pause behind them.
use Rattle.std.specs.Prelude.{◌≡◌, ◌⊎◌, Bool, List, [], ◌∷◌, Option, None, Some, Err}
use Rattle.shapers_base.specs.Font.{Font}
use Rattle.shapers_base.specs.declared.plan.hb_ot_shape_plan_t.{hb_ot_shape_plan_t}
use Rattle.shapers_base.specs.declared.plan.pause.Pause.{Pause}
use Rattle.shapers_buffer.specs.Buffer.{Buffer}
use Rattle.shapers_buffer.specs.declared.buffer.refusal.ShaperError.{ShaperError}
use Rattle.rustybuzz_shapers.specs.Checked.{AsRefused, StopsAt, pause_asks}
use Rattle.rustybuzz_shapers.specs.FoundSyllables.{PauseRun, RefusesFound}
use Rattle.rustybuzz_shapers.specs.declared.shaper.checked.CallError.{CallError}
use Rattle.rustybuzz_shapers.specs.declared.shaper.checked.CallError.TheVariants as call
use Rattle.shapers_plan.specs.declared.ot_map.lookups.Stage.{Stage}
use Rattle.shapers_plan.specs.declared.ot_map.lookups.StageLookup.{StageLookup}
use Rattle.shapers_pipeline.specs.Lookups.{LookupRefusals, StoppedIn, looked_up, lookups_of_stage}

-- what stages read: the plan of the hooks, the font, what each lookup makes of a text, and the list
-- of lookups that the stages are ranges of
pub record Substitution : Type 0 where
  pub plan : hb_ot_shape_plan_t
  pub font : Font
  pub substituted : StageLookup → Buffer → Buffer
  pub list : List StageLookup

-- the buffer before and after the pause that a stage has, if it has one
abbrev pub PauseRunIf : Option Pause → hb_ot_shape_plan_t → Font → Buffer → Buffer → Type 0
PauseRunIf None plan font old new = new ≡ old
PauseRunIf (Some pause) plan font old new = PauseRun pause plan font old new

-- what the lookups of a stage make of a text
abbrev pub stage_looked_up : Substitution → Stage → Buffer → Buffer
stage_looked_up r s b = looked_up r.substituted (lookups_of_stage s r.list) b

-- the buffer before and after a stage: its lookups, and then its pause
abbrev pub StageRun : Substitution → Stage → Buffer → Buffer → Type 0
StageRun r s old new = PauseRunIf s.pause r.plan r.font (stage_looked_up r s old) new

-- the buffer before and after all stages, one after another
abbrev pub StagesRun : Substitution → List Stage → Buffer → Buffer → Type 0
StagesRun r [] old new = new ≡ old
StagesRun r (s ∷ ss) old new = (mid : Buffer) × (StageRun r s old mid × StagesRun r ss mid new)

-- the error of a call that hands on a refusal such as this, and no condition
abbrev pub IsRefusal : (ShaperError → Type 0) → CallError → Type 0
IsRefusal Refused (call.Refused e) = Refused e
IsRefusal Refused (call.Condition _) = ⊥

-- why a pause didn't run: the first of its conditions that isn't met, where found spans meet
-- theirs; or, where all are met, its own refusal
abbrev pub PauseStopped : Pause → hb_ot_shape_plan_t → Font → Buffer → CallError → Type 0
PauseStopped pause plan font b e =
    StopsAt {T = Bool} (pause_asks pause plan [] b) (Err e)
    × AsRefused {T = Bool} (RefusesFound pause font b) (Err e)

-- why the pause that a stage has didn't run; a stage without one doesn't stop there
abbrev pub PauseStoppedIf :
    Option Pause → hb_ot_shape_plan_t → Font → Buffer → CallError → Type 0
PauseStoppedIf None plan font b e = ⊥
PauseStoppedIf (Some pause) plan font b e = PauseStopped pause plan font b e

-- A stage that stopped, by what its lookups may refuse, and why: a lookup refused, and the buffer
-- is as it was before that lookup; or the pause didn't run, and the buffer is as it was before the
-- pause.
abbrev pub StageStopped : Substitution → (StageLookup → Buffer → LookupRefusals) → Stage →
    Buffer → Buffer → CallError → Type 0
StageStopped r refusals s old new e =
    IsRefusal (StoppedIn r.substituted refusals (lookups_of_stage s r.list) old new) e
    ⊎ (PauseStoppedIf s.pause r.plan r.font (stage_looked_up r s old) e
    × (new ≡ stage_looked_up r s old))

-- one of these stages stopped, and those before it ran
abbrev pub StagesStopped : Substitution → (StageLookup → Buffer → LookupRefusals) → List Stage →
    Buffer → Buffer → CallError → Type 0
StagesStopped r refusals [] old new e = ⊥
StagesStopped r refusals (s ∷ ss) old new e =
    StageStopped r refusals s old new e
    ⊎ ((mid : Buffer) × (StageRun r s old mid × StagesStopped r refusals ss mid new e))
