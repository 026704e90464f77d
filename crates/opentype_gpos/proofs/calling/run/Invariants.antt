use Rattle.std.proofs.Common.{◌+◌, ◌*◌, length}
use Rattle.opentype_layout.specs.Rules.{found}
use Rattle.opentype_gpos.specs.Coming.{setting_of}
use Rattle.opentype_gpos.proofs.Calls.{IsRunning}
use Rattle.opentype_gpos.proofs.calling.run.Given as goal

abbrev pub invariant-loop-left : goal.invariant-loop-left
invariant-loop-left l = IsRunning (setting_of l.pass) (record { glyphs = l.fn.glyphs; positions = l.fn.positions; left = l.fn.left })
    (found l.fn.rule) l.frames.items l.glyphs l.positions l.left

abbrev pub decreases-loop-left : goal.decreases-loop-left
decreases-loop-left l = 2 * l.left + length l.frames.items
