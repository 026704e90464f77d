use Rattle.opentype_gpos.proofs.KernLefts.{AreLookedThrough}
use Rattle.opentype_gpos.proofs.kern_lefts.lefts_of.Given as goal

abbrev pub invariant-loop : goal.invariant-loop
invariant-loop l = AreLookedThrough l.count l.fn.bytes l.counter l.bytes l.lefts
