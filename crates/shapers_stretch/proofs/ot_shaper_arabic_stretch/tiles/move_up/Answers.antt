use Rattle.shapers_buffer.proofs.ClusterLemmas.{length-stretch}
use Rattle.std.proofs.Common.{arith}
use Rattle.std.specs.List.{zip}
use Rattle.shapers_stretch.proofs.Zips.{zip-stretch, zip-drop, zip-append, copied_up, pairs_kept, stretch_then}
use Rattle.shapers_stretch.proofs.ot_shaper_arabic_stretch.tiles.move_up.Goals as goal

pub returns-then-end-place-clause-kept : goal.returns-then-end-place-clause-kept
returns-then-end-place-clause-kept = search (arith, pairs_kept)

pub returns-then-end-place-clause-up : goal.returns-then-end-place-clause-up
returns-then-end-place-clause-up = search (arith, zip-drop, copied_up, zip-append, length-stretch, zip-stretch)

pub returns-else-end-place-clause-up : goal.returns-else-end-place-clause-up
returns-else-end-place-clause-up c = search (arith, stretch_then c.args.start c.args.end (zip c.args.glyphs.now c.args.positions.now) c.requires.in_order)
