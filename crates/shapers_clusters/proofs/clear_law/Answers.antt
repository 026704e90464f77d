use Rattle.shapers_clusters.proofs.ClearPlaces.{clear-places}
use Rattle.shapers_clusters.proofs.clear_law.Goals as goal

pub returns : goal.returns
returns c = clear-places
