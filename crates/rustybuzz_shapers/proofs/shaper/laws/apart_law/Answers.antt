use Rattle.rustybuzz_shapers.proofs.Apart.{halves_stay_apart, hooks_make_no_cluster, pauses_make_no_cluster}
use Rattle.rustybuzz_shapers.proofs.shaper.laws.apart_law.Goals as goal

pub returns-clause-hooks : goal.returns-clause-hooks
returns-clause-hooks c = hooks_make_no_cluster

pub returns-clause-pauses : goal.returns-clause-pauses
returns-clause-pauses c = pauses_make_no_cluster

pub returns-clause-halves : goal.returns-clause-halves
returns-clause-halves c = halves_stay_apart
