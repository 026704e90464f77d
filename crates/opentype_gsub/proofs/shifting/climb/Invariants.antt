use Rattle.std.proofs.Common.{◌-◌}
use Rattle.opentype_gsub.proofs.Machines.{IsFilling}
use Rattle.opentype_gsub.specs.Machine.{climbing}
use Rattle.opentype_gsub.proofs.shifting.climb.Given as goal

abbrev pub invariant-loop : goal.invariant-loop
invariant-loop l = IsFilling l.fn.new.items l.new.items (climbing l.fn.count l.fn.from) (climbing (l.count - l.counter) l.from)
