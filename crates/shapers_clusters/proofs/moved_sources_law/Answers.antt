use Rattle.shapers_clusters.proofs.Proved.{moved_sources_hold}
use Rattle.shapers_clusters.proofs.moved_sources_law.Goals as goal

pub returns : goal.returns
returns c = moved_sources_hold
