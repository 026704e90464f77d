use Rattle.shapers_clusters.proofs.FlagCalls.{flags_called-alone}
use Rattle.shapers_clusters.proofs.flag_calls_law.Goals as goal

pub returns : goal.returns
returns = search flags_called-alone
