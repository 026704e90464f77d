use Rattle.shapers_equivalence_laws.proofs.Ordering.{orders_alike}
use Rattle.shapers_equivalence_laws.proofs.laws.order_law.Goals as goal

pub returns : goal.returns
returns c = orders_alike
