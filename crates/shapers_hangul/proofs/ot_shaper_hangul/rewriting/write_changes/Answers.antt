-- Each item stands within the text, and what it becomes has room.
use Rattle.std.proofs.Common.{rules, ◌≡◌, [], arith, drop, length}
use Rattle.std.proofs.lemmas.List.{drop_all}
use Rattle.std.specs.Prelude.{vec_capacity}
use Rattle.shapers_hangul.specs.RewritingWalk.{changed_from}
use Rattle.shapers_hangul.proofs.Changes.{next_output, room_left, turn-at}
use Rattle.shapers_hangul.proofs.Walks.{default_item}
use Rattle.shapers_hangul.proofs.ot_shaper_hangul.rewriting.write_changes.Goals as goal

pub write_change-requires-clause-within : goal.write_change-requires-clause-within
write_change-requires-clause-within c =
    turn-at (length c.args.glyphs.now) 0 c.args.cut.now c.loop-entry.entry-index default_item (search rules)
    c.requires.in_turn

pub write_change-requires-clause-room : goal.write_change-requires-clause-room
write_change-requires-clause-room c =
    let l = c.loop-entry in
    let gs = c.args.glyphs.now in
    let cut = c.args.cut.now in
    omega (
      arith,
      next_output l.place cut gs l.entry-index default_item (search rules),
      room_left l.list.items (changed_from l.place (drop l.entry-index cut) gs) c.args.list.now.items
          (changed_from 0 cut gs) (vec_capacity c.args.list.now) (vec_capacity l.list) l.invariant.walk
          c.requires.room l.invariant.capacity,
    )

pub overflow_add-place : goal.overflow_add-place
overflow_add-place c = omega (
  arith,
  turn-at (length c.args.glyphs.now) 0 c.args.cut.now c.loop-entry.entry-index
      default_item (search rules) c.requires.in_turn,
)

pub unwrap-requires : goal.unwrap-requires
unwrap-requires c =
    let l = c.loop-entry in
    let gs = c.args.glyphs.now in
    let cut = c.args.cut.now in
    let none : drop l.entry-index cut ≡ [] = search drop_all in
    c.extend_from_slice.ensures.succeeds
    (
    search (
      arith,
      room_left l.list.items (changed_from l.place (drop l.entry-index cut) gs) c.args.list.now.items
          (changed_from 0 cut gs) (vec_capacity c.args.list.now) (vec_capacity l.list) l.invariant.walk
          c.requires.room l.invariant.capacity,
    ))
