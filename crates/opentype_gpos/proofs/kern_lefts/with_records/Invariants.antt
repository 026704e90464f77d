use Rattle.opentype_gpos.specs.KernLefts.{HasLefts}
use Rattle.opentype_gpos.proofs.kern_lefts.with_records.Given as goal

abbrev pub invariant-loop-i : goal.invariant-loop-i
invariant-loop-i l = HasLefts l.bytes l.i l.fn.known l.lefts
