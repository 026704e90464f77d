use Rattle.shapers_clusters.proofs.Borders.{bare-borders}
use Rattle.shapers_clusters.proofs.bare_law.Goals as goal

pub returns : goal.returns
returns c = bare-borders
