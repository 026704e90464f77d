use Rattle.std.proofs.Common.{arith}
use Rattle.opentype_gpos.proofs.Walks.{glyphs_all, glyphs_out, positions_all, positions_out, walked_next, walked_start}
use Rattle.opentype_gpos.proofs.kern.move_pairs.Goals as goal

pub loop-init : goal.loop-init
loop-init c = walked_start _ _ _ _ (cc)

pub returns-then-at-glyphs : goal.returns-then-at-glyphs
returns-then-at-glyphs c = record {
  glyphs = glyphs_out _ _ _ _ _ _ _ _ c.loop.invariant (omega arith);
  positions = positions_out _ _ _ _ _ _ _ _ c.loop.invariant (omega arith);
}

pub loop-preserved : goal.loop-preserved
loop-preserved c = walked_next _ _ _ _ _ _ _ _ _ _ _ c.loop.invariant c.loop-test.true
    (omega arith) (cc) c.step-at.ensures

pub returns : goal.returns
returns c = record {
  glyphs = glyphs_all _ _ _ _ _ _ _ _ c.loop.invariant c.loop-test.false;
  positions = positions_all _ _ _ _ _ _ _ _ c.loop.invariant c.loop-test.false;
}
