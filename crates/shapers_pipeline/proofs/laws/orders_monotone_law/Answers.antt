use Rattle.shapers_pipeline.proofs.OrderMonotone.{order_monotone}
use Rattle.shapers_pipeline.proofs.laws.orders_monotone_law.Goals as goal

pub returns : goal.returns
returns c = order_monotone
