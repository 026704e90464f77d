-- What stands behind the last SARA AM moves, and the text before it is rewritten.
use Rattle.std.proofs.Common.{◌∙◌, ◌+◌, ◌-◌, ◌++◌, drop, take, length, ap, length-take-le, arith}
use Rattle.shapers_text.proofs.ThaiOthers.{others_counted, others_moved, others_written}
use Rattle.shapers_text.proofs.ThaiStretches.{length-glyphs_in_two}
use Rattle.shapers_text.proofs.ot_shaper_thai.sara_am.rewrite_in_room.Goals as goal

pub find_first-first-requires-clause-counted : goal.find_first-first-requires-clause-counted
find_first-first-requires-clause-counted c =
    omega (
      arith,
      c.requires.1,
      length-glyphs_in_two (take c.args.len c.args.glyphs.now),
      length-take-le c.args.len c.args.glyphs.now c.requires.0,
    )

pub write_in_two-requires-clause-room : goal.write_in_two-requires-clause-room
write_in_two-requires-clause-room c =
    let gs = c.args.glyphs.now in
    let len = c.args.len in
    let end = len - c.count_behind_sara_am.result in
    let others = others_counted gs len c.count_behind_sara_am.result c.requires.0 c.count_behind_sara_am.ensures.count in
    let place = end + (length gs - len) in
    let moved = others_moved c.args.level gs c.merge_all_sara_am.new.glyphs c.copy_within.new.self len end place c.requires
    others c.merge_all_sara_am.ensures (omega arith) c.copy_within.ensures.after in
    length-take-le place c.copy_within.new.self (omega arith) ∙ moved.room

pub returns : goal.returns
returns c =
    let gs = c.args.glyphs.now in
    let len = c.args.len in
    let end = len - c.count_behind_sara_am.result in
    let others = others_counted gs len c.count_behind_sara_am.result c.requires.0 c.count_behind_sara_am.ensures.count in
    let place = end + (length gs - len) in
    let moved = others_moved c.args.level gs c.merge_all_sara_am.new.glyphs c.copy_within.new.self len end place c.requires
    others c.merge_all_sara_am.ensures (omega arith) c.copy_within.ensures.after in
    ap (λ xs. xs ++ drop place c.copy_within.new.self) c.write_in_two.ensures
    ∙ others_written c.args.level gs c.copy_within.new.self len end place others moved
