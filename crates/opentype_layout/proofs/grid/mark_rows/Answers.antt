use Rattle.std.proofs.Common.{arith, ◌^◌}
use Rattle.opentype_layout.proofs.Grids.{in_room}
use Rattle.opentype_layout.proofs.grid.mark_rows.Goals as goal

pub overflow_mul-row : goal.overflow_mul-row
overflow_mul-row c =
    let few = c.requires.few in
    let small = in_room c.args.width c.args.i c.loop-row.row c.args.end (2 ^ 56) c.requires.column c.loop-row-test.true (omega arith) in
    record { fits = omega arith }

pub overflow_add-row : goal.overflow_add-row
overflow_add-row c =
    let few = c.requires.few in
    let small = in_room c.args.width c.args.i c.loop-row.row c.args.end (2 ^ 56) c.requires.column c.loop-row-test.true (omega arith) in
    record { fits = omega arith }
