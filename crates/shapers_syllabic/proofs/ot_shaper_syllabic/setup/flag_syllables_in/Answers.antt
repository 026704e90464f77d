-- One syllable more.
use Rattle.std.proofs.Common.{arith}
use Rattle.std.proofs.lemmas.List.{take_rest}
use Rattle.shapers_syllabic.proofs.SyllableWalks.{change_next}
use Rattle.shapers_syllabic.proofs.ot_shaper_syllabic.setup.flag_syllables_in.Goals as goal

pub loop-start-preserved : goal.loop-start-preserved
loop-start-preserved = search (arith, change_next, take_rest)
