use Rattle.std.proofs.Common.{sym, arith}
use Rattle.opentype_face.proofs.Named.{nth_first, nth_last, nth_next}
use Rattle.opentype_face.proofs.names.start_of_nth.Goals as goal

pub loop-i-init : goal.loop-i-init
loop-i-init c = nth_first _ _ _

pub loop-i-preserved : goal.loop-i-preserved
loop-i-preserved c = nth_next _ _ _ _ _ _ c.loop-i.invariant (omega arith) (cc) (omega arith)

pub returns-clause-value : goal.returns-clause-value
returns-clause-value c = sym (nth_last _ _ _ _ _ c.loop-i.invariant (omega arith))
