-- By the clusters of the two.
use Rattle.std.proofs.Common.{arith}
use Rattle.shapers_buffer.specs.Glyph.{default_glyph}
use Rattle.shapers_arabic.proofs.Neighbours.{flagged-first, flagged-neither, flagged-second}
use Rattle.shapers_arabic.proofs.ot_shaper_arabic.joining.flag_neighbours.Goals as goal

pub returns-then-first-second : goal.returns-then-first-second
returns-then-first-second = search (arith, flagged-second)

pub returns-then-second-first : goal.returns-then-second-first
returns-then-second-first = search (arith, flagged-first)

pub returns-else-second-first : goal.returns-else-second-first
returns-else-second-first c = flagged-neither c.args.bits c.args.pair.now default_glyph c.requires (omega arith)
