use Rattle.std.proofs.Common.{◌≡◌, drop}
use Rattle.ucd_table.specs.Steps.{step_value}
use Rattle.shapers_unicode.proofs.table.number_in_tail.Given as goal

abbrev pub invariant-loop-end : goal.invariant-loop-end
invariant-loop-end l = step_value 0 l.tail l.c ≡ step_value 0 (drop l.end-index l.tail) l.c
