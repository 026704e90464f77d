use Rattle.std.proofs.Common.{◌-◌, length}
use Rattle.shapers_syllabic.proofs.CarriedSyllables.{ToCarry}
use Rattle.shapers_syllabic.proofs.ot_shaper_syllabic.reordering.reorder_along.Given as goal

abbrev pub invariant-loop-first : goal.invariant-loop-first
invariant-loop-first g l = ToCarry (g.R.Reorder.takes l.order) (g.R.Reorder.relation l.order) l.fn.from l.fn.buffer
    l.groups l.buffer l.start

abbrev pub decreases-loop-first : goal.decreases-loop-first
decreases-loop-first g l = length l.buffer.glyphs - l.start
