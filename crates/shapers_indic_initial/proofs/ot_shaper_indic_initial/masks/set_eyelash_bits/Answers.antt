-- One more glyph.
use Rattle.std.proofs.Common.{arith}
use Rattle.shapers_buffer.specs.Glyph.{default_glyph}
use Rattle.shapers_indic_initial.proofs.MaskWalks.{eyelash_next}
use Rattle.shapers_indic_initial.proofs.ot_shaper_indic_initial.masks.set_eyelash_bits.Goals as goal

pub loop-i-preserved : goal.loop-i-preserved
loop-i-preserved c =
    let l = c.loop-i in
    eyelash_next c.args.bits c.args.base c.args.glyphs.now l.glyphs c.if-is_in_eyelash.glyphs l.i default_glyph
    c.is_in_eyelash.result (omega arith) l.invariant c.is_in_eyelash.ensures (search arith)
