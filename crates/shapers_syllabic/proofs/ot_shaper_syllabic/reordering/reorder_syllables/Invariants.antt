use Rattle.std.proofs.Common.{◌-◌, length}
use Rattle.shapers_syllabic.specs.ReorderingWalk.{ToLink}
use Rattle.shapers_syllabic.proofs.ot_shaper_syllabic.reordering.reorder_syllables.Given as goal

abbrev pub invariant-loop-first : goal.invariant-loop-first
invariant-loop-first g l = ToLink (g.R.Reorder.takes l.order) (g.R.Reorder.relation l.order) 0 l.fn.buffer l.buffer
    l.start

abbrev pub decreases-loop-first : goal.decreases-loop-first
decreases-loop-first g l = length l.buffer.glyphs - l.start
