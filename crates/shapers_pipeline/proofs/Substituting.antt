-- A plan's parts, as its readers return them, are those that its value has.
use Rattle.std.proofs.Common.{◌≡◌, ◌⊎◌, inr, subst, List, Result, Ok, Err, IfErr}
use Rattle.shapers_buffer.specs.Buffer.{Buffer}
use Rattle.rustybuzz_shapers.specs.declared.shaper.checked.CallError.{CallError}
use Rattle.shapers_plan.specs.declared.ot_map.lookups.Stage.{Stage}
use Rattle.shapers_plan.specs.declared.ot_map.lookups.StageLookup.{StageLookup}
use Rattle.shapers_pipeline.specs.Lookups.{LookupRefusals}
use Rattle.shapers_pipeline.specs.Stages.{StagesRun, StagesStopped, Substitution}

-- what stages do, for an equal list of stages that read equal things, from an equal text
pub run_alike : {r s : Substitution} {ss ts : List Stage} {old mid : Buffer} (new : Buffer) → r ≡ s → ss ≡ ts → old ≡ mid → StagesRun r ss old new → StagesRun s ts mid new
run_alike {r} {s} {ss} {ts} {old} {mid} new p q e run =
    subst (λ b. StagesRun s ts b new) e (subst (λ xs. StagesRun s xs old new) q (subst (λ v. StagesRun v ss old new) p run))

pub stopped_alike : {r s : Substitution} {ss ts : List Stage} {old mid : Buffer} (refusals : StageLookup → Buffer → LookupRefusals) (new : Buffer) → r ≡ s → ss ≡ ts → old ≡ mid →
    (e : CallError) → StagesStopped r refusals ss old new e → StagesStopped s refusals ts mid new e
stopped_alike {r} {s} {ss} {ts} {old} {mid} refusals new p q same e stopped =
    subst (λ b. StagesStopped s refusals ts b new e) same
    (subst (λ xs. StagesStopped s refusals xs old new e) q (subst (λ v. StagesStopped v refusals ss old new e) p stopped))

-- an error of the stages, as the second of two ways to stop
pub as_stopped : {T E : Type 0} {P Q : E → Type 0} (R : E → Type 0) (r : Result T E) → ((e : E) → P e → Q e) → IfErr r P → IfErr r (λ e. R e ⊎ Q e)
as_stopped R (Ok x) f h = tt
as_stopped R (Err e) f h = inr (f e h)
