use Rattle.opentype_gpos.specs.Coming.{setting_of}
use Rattle.opentype_gpos.proofs.Passing.{IsHere}
use Rattle.opentype_gpos.proofs.apply_along.apply_along.Given as goal

abbrev pub invariant-loop-steps : goal.invariant-loop-steps
invariant-loop-steps l = IsHere (setting_of l.pass) l.lookup l.fn.glyphs l.fn.positions l.steps l.glyphs l.positions l.at

abbrev pub decreases-loop-steps : goal.decreases-loop-steps
decreases-loop-steps l = l.steps
