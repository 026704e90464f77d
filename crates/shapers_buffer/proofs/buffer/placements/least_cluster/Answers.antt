-- One more cluster.
use Rattle.std.proofs.Common.{arith}
use Rattle.shapers_buffer.specs.Glyph.{default_glyph}
use Rattle.shapers_buffer.proofs.Arranging.{clusters_from, least_from, none_from}
use Rattle.shapers_buffer.proofs.buffer.placements.least_cluster.Goals as goal

pub loop-i-init : goal.loop-i-init
loop-i-init c = search (arith, least_from default_glyph)

pub loop-i-preserved : goal.loop-i-preserved
loop-i-preserved c =
    let next = clusters_from default_glyph c.loop-i.i c.args.end c.args.glyphs.now (omega arith) (omega arith) in
    search arith

pub returns : goal.returns
returns c = search (arith, none_from)
