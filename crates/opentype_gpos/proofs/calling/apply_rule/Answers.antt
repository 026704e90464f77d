use Rattle.std.proofs.Common.{ap, sym, arith}
use Rattle.shapers_buffer.specs.Glyphs.{Glyphs}
use Rattle.opentype_gpos.specs.Called.{Work}
use Rattle.opentype_gpos.specs.Moved.{Positions}
use Rattle.opentype_gpos.proofs.Calls.{applied_all, applied_spent, applying_next, applying_start}
use Rattle.opentype_gpos.proofs.calling.apply_rule.Goals as goal

abbrev glyphs_of : Work → Glyphs
glyphs_of w = w.glyphs

abbrev positions_of : Work → Positions
positions_of w = w.positions

pub loop-i-init : goal.loop-i-init
loop-i-init c =
    let put : Glyphs → Work = λ gs. record { glyphs = gs; positions = c.args.positions.now; left = 4096 } in
    applying_start _ _ _ _ _ (cc) (ap put c.flag_rule.ensures)

pub returns-then-left-eq0-clause-glyphs : goal.returns-then-left-eq0-clause-glyphs
returns-then-left-eq0-clause-glyphs c = sym (ap glyphs_of (applied_spent _ _ _ _ _ _ _ c.loop-i.invariant c.if-left-eq0.true))

pub returns-then-left-eq0-clause-positions : goal.returns-then-left-eq0-clause-positions
returns-then-left-eq0-clause-positions c =
    sym (ap positions_of (applied_spent _ _ _ _ _ _ _ c.loop-i.invariant c.if-left-eq0.true))

pub loop-i-preserved : goal.loop-i-preserved
loop-i-preserved c = applying_next _ _ _ _ _ _ _ _ _ _ c.loop-i.invariant c.loop-i-test.true (cc) c.apply_record-left.ensures

pub returns-clause-glyphs : goal.returns-clause-glyphs
returns-clause-glyphs c = sym (ap glyphs_of (applied_all _ _ _ _ _ _ _ c.loop-i.invariant (omega arith)))

pub returns-clause-positions : goal.returns-clause-positions
returns-clause-positions c = sym (ap positions_of (applied_all _ _ _ _ _ _ _ c.loop-i.invariant (omega arith)))
