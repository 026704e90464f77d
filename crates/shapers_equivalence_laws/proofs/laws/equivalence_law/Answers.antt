use Rattle.shapers_equivalence_laws.proofs.Proved.{comes_apart, normalizes_so, orders_marks_so}
use Rattle.shapers_equivalence_laws.proofs.laws.equivalence_law.Goals as goal

pub returns : goal.returns
returns c = record { apart = comes_apart; ordered = orders_marks_so; normalized = normalizes_so }
