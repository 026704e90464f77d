use Rattle.opentype_layout.proofs.Lookings.{stopped_passed, stopped_start}
use Rattle.opentype_gpos.proofs.Firsts.{passed_back, stopped_back}
use Rattle.opentype_gpos.proofs.trying.count_back.Goals as goal

pub loop-i-init : goal.loop-i-init
loop-i-init c = stopped_start _ _ _

pub returns-then-not-passes_any : goal.returns-then-not-passes_any
returns-then-not-passes_any c = stopped_back _ _ _ c.loop-i.invariant c.loop-i-test.true (cc)

pub loop-i-preserved : goal.loop-i-preserved
loop-i-preserved c = stopped_passed _ _ _ _ c.loop-i.invariant c.loop-i-test.true (cc)

pub returns : goal.returns
returns c = passed_back _ _ _ c.loop-i.invariant c.loop-i-test.false
