use Rattle.shapers_pipeline.proofs.OrderLaws.{order_alone}
use Rattle.shapers_pipeline.proofs.laws.orders_alone_law.Goals as goal

pub returns : goal.returns
returns c = order_alone
