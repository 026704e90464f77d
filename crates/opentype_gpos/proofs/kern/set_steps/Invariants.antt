use Rattle.std.proofs.Common.{◌≡◌, ◌++◌, map, take, drop}
use Rattle.opentype_gpos.specs.Kerned.{with_step}
use Rattle.opentype_gpos.proofs.kern.set_steps.Given as goal

abbrev pub invariant-loop-position : goal.invariant-loop-position
invariant-loop-position l =
    take l.position-index l.positions ++ map (with_step l.step) (drop l.position-index l.positions)
    ≡ map (with_step l.step) l.initial.positions
