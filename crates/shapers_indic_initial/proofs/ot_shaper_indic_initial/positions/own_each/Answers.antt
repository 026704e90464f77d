-- One glyph more, back.
use Rattle.std.proofs.Common.{◌-◌, arith}
use Rattle.shapers_buffer.specs.Glyph.{default_glyph}
use Rattle.shapers_indic_initial.proofs.Positions.{owning_next}
use Rattle.shapers_indic_initial.proofs.ot_shaper_indic_initial.positions.own_each.Goals as goal

pub loop-i-preserved : goal.loop-i-preserved
loop-i-preserved c =
    let l = c.loop-i in
    owning_next (l.i - 1) c.owned_position.result l.owner c.args.glyphs.now l.glyphs default_glyph
    (search arith) (search arith) c.owned_position.ensures
