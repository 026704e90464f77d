-- One more glyph.
use Rattle.std.proofs.Common.{arith}
use Rattle.shapers_buffer.specs.Glyph.{default_glyph}
use Rattle.shapers_myanmar.proofs.Positioned.{own_next, parts_behind}
use Rattle.shapers_myanmar.proofs.ot_shaper_myanmar.positions.set_later.Goals as goal

pub loop-glyph-init : goal.loop-glyph-init
loop-glyph-init = search parts_behind

pub loop-glyph-preserved : goal.loop-glyph-preserved
loop-glyph-preserved c =
    let l = c.loop-glyph in
    own_next l.before l.part l.glyphs _ l.glyph-index default_glyph c.position_behind_base-part.result c.own_position-before.result
    (search arith) l.invariant c.position_behind_base-part.ensures c.own_position-before.ensures
