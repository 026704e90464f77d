use Rattle.shapers_indic_initial.proofs.FontCircles as proofs
use Rattle.shapers_indic_initial.proofs.ot_shaper_indic_initial.laws.initially_as_pause.Goals as goal

pub returns : goal.returns
returns c = proofs.initially_as_pause
