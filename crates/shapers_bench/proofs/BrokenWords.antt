-- Words after single substitutions, by the law of breaks of the pipeline.
use Rattle.std.proofs.Common.{List, refl}
use Rattle.shapers_base.specs.Font.{Font}
use Rattle.shapers_base.specs.declared.plan.hb_ot_shape_plan_t.{hb_ot_shape_plan_t}
use Rattle.shapers_buffer.specs.Buffer.{Buffer}
use Rattle.shapers_editing.specs.PipelineBreaks.{LookupsLeave, Numbering, SinglesLeavePieces, StagesLeavePieces, StepLeavesPieces}
use Rattle.shapers_pipeline.specs.ClusterLaws.{LookupsKeep}
use Rattle.shapers_pipeline.specs.SingleLaws.{singles_keep}
use Rattle.shapers_pipeline.specs.Singles.{singles_applied}
use Rattle.shapers_pipeline.specs.Stages.{StagesRun}
use Rattle.shapers_pipeline.specs.declared.singles.Single.{Single}
use Rattle.shapers_plan.specs.Stages.{applied_always}
use Rattle.shapers_bench.specs.Substituted.{SubstitutedBy, one_stage, substituting}

-- The stage has no pause, and its lookup leaves pieces side by side in every text; and a piece that the substitutions
-- change has run through the stage.
pub word_breaks : StagesLeavePieces → SinglesLeavePieces → (numbered : Numbering) (text : Buffer)
    (plan : hb_ot_shape_plan_t) (font : Font) (singles : List Single) (old last : Buffer)
    → StagesRun (substituting plan font singles) one_stage old last
    → StepLeavesPieces numbered text (SubstitutedBy singles) old last
word_breaks stages each numbered text plan font singles old last run front back cut =
    let r = substituting plan font singles in
    let keeps : LookupsKeep (singles_applied singles) = λ lookup b none. singles_keep singles lookup b in
    let leaves : LookupsLeave numbered text r one_stage old last run =
    ((each numbered text singles applied_always old refl, tt), tt) in
    let made = stages numbered text r one_stage old last keeps run leaves (tt, tt) front back cut in
    record {
      before = made.before;
      behind = made.behind;
      pieces = made.pieces;
      first = λ one new is step. made.first one new is (new, (step, refl));
      second = λ one new is step. made.second one new is (new, (step, refl));
    }
