-- Neighbours of different bytes.
use Rattle.std.proofs.Common.{arith}
use Rattle.shapers_syllabic.proofs.Skipping.{border_between}
use Rattle.shapers_syllabic.proofs.ot_shaper_syllabic.reordering.syllable_start.Goals as goal

pub returns-then-glyphs-i-clause-border : goal.returns-then-glyphs-i-clause-border
returns-then-glyphs-i-clause-border = search (arith, border_between)
