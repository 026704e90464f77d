-- The growth, the merges and the writing.
use Rattle.std.proofs.Common.{◌∙◌, ◌≡◌, ap, take, arith, rules}
use Rattle.shapers_text.specs.Thai.{glyphs_in_two}
use Rattle.shapers_text.proofs.ThaiStretches.{length-glyphs_in_two, room_made, all_written}
use Rattle.shapers_text.specs.ThaiWalk.{merged_front}
use Rattle.shapers_text.proofs.ot_shaper_thai.sara_am.rewrite_counted.Goals as goal

pub returns-in_err-grow-clause-length : goal.returns-in_err-grow-clause-length
returns-in_err-grow-clause-length = search (arith, length-glyphs_in_two)

pub with_glyphs_mut-requires : goal.with_glyphs_mut-requires
with_glyphs_mut-requires c = search (
  arith,
  room_made c.args.buffer.now.glyphs c.args.count c.len-len.result c.len-len.ensures.length
      c.requires.counted,
)

pub returns-clause-ok : goal.returns-clause-ok
returns-clause-ok c =
    let in_room : c.with_glyphs_mut.new.self.glyphs
    ≡ glyphs_in_two (take c.len-len.result (merged_front c.cluster_level-level.result c.len-len.result c.grow.new.self.glyphs)) =
    search (rules, c.with_glyphs_mut.ensures.changed) in
    let written = in_room
    ∙ ap (λ level. glyphs_in_two (take c.len-len.result (merged_front level c.len-len.result c.grow.new.self.glyphs)))
    c.cluster_level-level.ensures in
    all_written c.args.buffer.now c.grow.new.self c.with_glyphs_mut.new.self c.args.count c.len-len.result
    c.requires.without_positions c.len-len.ensures.length c.in_ok-grow.ensures.ok written c.with_glyphs_mut.ensures.others

pub returns-clause-length : goal.returns-clause-length
returns-clause-length = search (arith, length-glyphs_in_two)
