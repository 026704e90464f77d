-- The form of the last letter, and the letter's own.
use Rattle.std.proofs.Common.{arith}
use Rattle.shapers_arabic.proofs.FlaggedGlyphs.{within-more}
use Rattle.shapers_arabic.proofs.ot_shaper_arabic.joining.join_letter.Goals as goal

pub give_last-requires-clause-within : goal.give_last-requires-clause-within
give_last-requires-clause-within = search (arith, within-more)

pub set_form-requires : goal.set_form-requires
set_form-requires = search arith
