use Rattle.std.proofs.Common.{arith}
use Rattle.std.proofs.lemmas.Int.{to_z-of_z}
use mir.Syntax.{w64}
use Rattle.shapers_stretch.proofs.LaidCopies.{one_laid}
use Rattle.shapers_stretch.proofs.ot_shaper_arabic_stretch.tiles.lay_copy.Goals as goal

pub returns-clause-lays : goal.returns-clause-lays
returns-clause-lays c =
    let at = to_z-of_z w64 c.args.pen.at (search) in
    let step = to_z-of_z w64 c.args.step c.ranges.step in
    one_laid c.args.right_to_left
    (record { tile = (c.args.tile.glyph, c.args.tile.position); move = c.args.step }) c.args.pen c.args.glyphs.now c.args.positions.now _ _ c.requires.can
    (search (arith, to_z-of_z)) (search arith)
