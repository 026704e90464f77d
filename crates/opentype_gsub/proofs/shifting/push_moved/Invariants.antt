use Rattle.std.proofs.Common.{drop, map}
use Rattle.opentype_gsub.proofs.Machines.{IsFilling}
use Rattle.opentype_gsub.specs.Machine.{place_moved}
use Rattle.opentype_gsub.proofs.shifting.push_moved.Given as goal

abbrev pub invariant-loop-k : goal.invariant-loop-k
invariant-loop-k l = IsFilling l.fn.new.items l.new.items (map (place_moved l.added l.removed) l.places) (map (place_moved l.added l.removed) (drop l.k l.places))
