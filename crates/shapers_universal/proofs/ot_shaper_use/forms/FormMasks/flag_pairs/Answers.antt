-- One syllable more.
use Rattle.std.proofs.Common.{arith}
use Rattle.std.proofs.lemmas.List.{take_rest}
use Rattle.shapers_universal.proofs.TornPairs.{pairs_next}
use Rattle.shapers_universal.proofs.ot_shaper_use.forms.FormMasks.flag_pairs.Goals as goal

pub loop-start-preserved : goal.loop-start-preserved
loop-start-preserved = search (arith, pairs_next, take_rest)
