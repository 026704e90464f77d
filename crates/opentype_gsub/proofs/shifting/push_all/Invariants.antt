use Rattle.std.proofs.Common.{drop}
use Rattle.opentype_gsub.proofs.Machines.{IsFilling}
use Rattle.opentype_gsub.proofs.shifting.push_all.Given as goal

abbrev pub invariant-loop-k : goal.invariant-loop-k
invariant-loop-k l = IsFilling l.fn.new.items l.new.items (l.places) (drop l.k l.places)
