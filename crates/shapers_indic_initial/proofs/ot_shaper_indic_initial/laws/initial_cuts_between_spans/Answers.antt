use Rattle.shapers_indic_initial.proofs.FontCircles as proofs
use Rattle.shapers_indic_initial.proofs.ot_shaper_indic_initial.laws.initial_cuts_between_spans.Goals as goal

pub returns : goal.returns
returns c = proofs.initial_cuts_between_spans
