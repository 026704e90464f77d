-- The positions that are done, and what becomes of the rest.
use Rattle.std.proofs.Common.{◌≡◌, ◌++◌, drop, take}
use Rattle.shapers_position.specs.Widths.{positions_changed}
use Rattle.shapers_position.proofs.ot_shape_position.positions.change_each_position.Given as goal

abbrev pub invariant-loop-i : goal.invariant-loop-i
invariant-loop-i g l =
    let f = g.C.PositionChange.changed l.change in
    take l.i l.positions ++ positions_changed f (drop l.i l.glyphs) (drop l.i l.positions)
    ≡ positions_changed f l.glyphs l.initial.positions
