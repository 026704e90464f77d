use Rattle.opentype_gpos.specs.Moved.{position_at}
use Rattle.opentype_gpos.proofs.Turning.{IsTurning}
use Rattle.opentype_gpos.proofs.joins.reverse_line.Given as goal

abbrev pub invariant-loop : goal.invariant-loop
invariant-loop l = IsTurning l.vertical l.parent l.fn.positions l.start (position_at l.fn.positions l.start)
    l.counter l.positions l.at l.old
