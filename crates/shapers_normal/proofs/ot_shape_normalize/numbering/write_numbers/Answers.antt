-- One number more.
use Rattle.std.proofs.Common.{arith}
use Rattle.shapers_buffer.specs.Glyph.{default_glyph}
use Rattle.shapers_normal.proofs.NumberedWords.{number_set}
use Rattle.shapers_normal.proofs.ot_shape_normalize.numbering.write_numbers.Goals as goal

pub loop-i-preserved : goal.loop-i-preserved
loop-i-preserved c =
    search (arith, number_set c.args.numbers.now c.args.glyphs.now c.loop-i.i 0 default_glyph)
