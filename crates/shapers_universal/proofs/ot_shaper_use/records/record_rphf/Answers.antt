-- Without a mask nothing is recorded.
use Rattle.std.proofs.Common.{arith}
use Rattle.shapers_universal.proofs.NothingRecorded.{nothing_recorded}
use Rattle.shapers_universal.proofs.ot_shaper_use.records.record_rphf.Goals as goal

pub returns-then-universal_plan-eq0 : goal.returns-then-universal_plan-eq0
returns-then-universal_plan-eq0 = search (arith, nothing_recorded)
