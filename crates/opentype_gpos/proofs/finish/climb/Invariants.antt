use Rattle.opentype_gpos.proofs.Following.{IsClimbed}
use Rattle.opentype_gpos.proofs.finish.climb.Given as goal

abbrev pub invariant-loop : goal.invariant-loop
invariant-loop l = IsClimbed l.fn.positions l.start l.counter l.links.items l.positions l.at
