use Rattle.std.proofs.Common.{◌+◌, ◌*◌}
use Rattle.opentype_face.specs.Bytes.{u16_in}
use Rattle.opentype_layout.proofs.Grids.{AreMarking}
use Rattle.opentype_layout.proofs.grid.Grid.mark_ranges.Given as goal

abbrev pub invariant-loop-j : goal.invariant-loop-j
invariant-loop-j l = AreMarking l.self l.fn.words l.words l.i (λ k. u16_in l.ranges.bytes.now (l.ranges.first + k * l.ranges.size))
    (λ k. u16_in l.ranges.bytes.now (l.ranges.last + k * l.ranges.size)) l.j
