use Rattle.opentype_gsub.proofs.Machines.{IsRunning}
use Rattle.opentype_gsub.specs.Came.{frame_of}
use Rattle.opentype_gsub.specs.Machine.{machine_stepped}
use Rattle.opentype_gsub.specs.Setting.{setting_of}
use Rattle.std.proofs.Common.{[], ◌∷◌}
use Rattle.opentype_gsub.proofs.machine.run.Given as goal

abbrev pub invariant-loop-left : goal.invariant-loop-left
invariant-loop-left l = IsRunning (machine_stepped (setting_of l.pass)) l.turns l.fn.text l.fn.lookups (frame_of l.fn.rule ∷ [])
    l.left l.text l.lookups (frame_of l.rule ∷ [])

abbrev pub decreases-loop-left : goal.decreases-loop-left
decreases-loop-left l = l.left
