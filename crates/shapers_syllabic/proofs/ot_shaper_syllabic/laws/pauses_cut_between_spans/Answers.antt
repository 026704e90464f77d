use Rattle.shapers_syllabic.proofs.HiddenCuts as proofs
use Rattle.shapers_syllabic.proofs.ot_shaper_syllabic.laws.pauses_cut_between_spans.Goals as goal

pub returns : goal.returns
returns c = proofs.pauses_cut_between_spans
