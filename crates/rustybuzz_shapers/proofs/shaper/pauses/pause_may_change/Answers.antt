-- Where it returns false, the pause leaves every buffer as it is.
use Rattle.std.proofs.Common.{arith}
use Rattle.rustybuzz_shapers.proofs.PauseStays.{stays}
use Rattle.rustybuzz_shapers.proofs.shaper.pauses.pause_may_change.Goals as goal

pub returns-in-RecordRphf-clause-stays : goal.returns-in-RecordRphf-clause-stays
returns-in-RecordRphf-clause-stays c none = search (arith, stays)
