use Rattle.shapers_clusters.proofs.Permuted.{permutes-widened}
use Rattle.shapers_clusters.proofs.Widened.{order_view-widened, all_moves-widened, all_fit-widened}
use Rattle.shapers_buffer.proofs.MappedLists.{all-mapped}
use Rattle.shapers_clusters.proofs.widened_law.Goals as goal

pub returns : goal.returns
returns = search (all_fit-widened, all_moves-widened, all-mapped, permutes-widened, order_view-widened)
