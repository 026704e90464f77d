use Rattle.std.proofs.Common.{rules, arith}
use Rattle.opentype_layout.proofs.Grids.{none_clear, none_clear_all, none_outside, row_in_room, same_kind}
use Rattle.opentype_layout.proofs.starts.Starts.next.Goals as goal

pub returns-then-not-has_row-clause-passed : goal.returns-then-not-has_row-clause-passed
returns-then-not-has_row-clause-passed c =
    let same = same_kind c.args.of_gpos c.self.inside.of_gpos c.if-of_gpos-self.false in
    let is = rw (same, c.self.view_is) at (c.self.invariant.1.0 c.if-not-self.false) in
    none_outside _ _ _ _ _ _ _ is (search rules)

pub first_bit-place-requires-clause-room : goal.first_bit-place-requires-clause-room
first_bit-place-requires-clause-room c =
    let is = c.self.invariant.1.0 c.if-not-self.false in
    let room = row_in_room _ _ _ _ _ c.args.glyph c.place-row.result is (search rules) c.place-row.ensures c.ranges.glyph.fits in
    rw (c.from-2.ensures, c.deref.ensures.value) room.0

pub returns-then-place-end-clause-passed : goal.returns-then-place-end-clause-passed
returns-then-place-end-clause-passed c =
    let same = same_kind c.args.of_gpos c.self.inside.of_gpos c.if-of_gpos-self.false in
    let is = rw (same, c.self.view_is) at (c.self.invariant.1.0 c.if-not-self.false) in
    let clear = rw (c.from.ensures, c.deref.ensures.value) at c.first_bit-place.ensures.clear in
    none_clear _ _ _ _ _ _ _ _ _ is c.place-row.ensures (omega arith) clear

pub returns-else-place-end-clause-passed : goal.returns-else-place-end-clause-passed
returns-else-place-end-clause-passed c =
    let same = same_kind c.args.of_gpos c.self.inside.of_gpos c.if-of_gpos-self.false in
    let is = rw (same, c.self.view_is) at (c.self.invariant.1.0 c.if-not-self.false) in
    let clear = rw (c.from.ensures, c.deref.ensures.value) at c.first_bit-place.ensures.clear in
    none_clear_all _ _ _ _ _ _ _ _ _ is c.place-row.ensures (omega arith) clear
