-- One syllable more.
use Rattle.std.proofs.Common.{append-nil, arith}
use Rattle.std.proofs.lemmas.List.{drop_all, take_all, take_rest}
use Rattle.shapers_universal.proofs.SyllableWalks.{form_next}
use Rattle.shapers_universal.proofs.ot_shaper_use.forms.FormMasks.set_in.Goals as goal

pub loop-start-preserved : goal.loop-start-preserved
loop-start-preserved = search (arith, form_next, take_rest)

pub returns : goal.returns
returns c = search (arith, take_all, drop_all, append-nil)
