use Rattle.std.proofs.Common.{◌-◌, length}
use Rattle.shapers_syllabic.specs.ReorderingWalk.{ToLink}
use Rattle.shapers_syllabic.proofs.ot_shaper_syllabic.reordering.reorder_syllables_by_steps.Given as goal

abbrev pub invariant-loop-start : goal.invariant-loop-start
invariant-loop-start g l = ToLink (g.R.Reorder.takes l.order) (g.R.Reorder.relation l.order) 0 l.fn.buffer l.buffer l.start

abbrev pub decreases-loop-start : goal.decreases-loop-start
decreases-loop-start g l = length l.buffer.glyphs - l.start
