use Rattle.shapers_clusters.proofs.FlagCalls.{unsafe_to_concat_in-alone, unsafe_inside-alone, tatweel_inside-alone}
use Rattle.shapers_clusters.proofs.Merging.{order_view-merge}
use Rattle.shapers_clusters.proofs.view_law.Goals as goal

pub returns : goal.returns
returns = search (order_view-merge, unsafe_inside-alone, unsafe_to_concat_in-alone, tatweel_inside-alone)
