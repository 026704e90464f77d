-- The glyph before.
use Rattle.std.proofs.Common.{arith}
use Rattle.shapers_indic_final.proofs.FinalWordStartCases.{before_there}
use Rattle.shapers_indic_final.proofs.ot_shaper_indic_final.word_start.word_continues.Goals as goal

pub returns : goal.returns
returns = search (arith, before_there)
