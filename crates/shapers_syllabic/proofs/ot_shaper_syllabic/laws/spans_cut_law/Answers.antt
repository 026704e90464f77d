use Rattle.shapers_syllabic.proofs.SpanCuts.{spans_cut}
use Rattle.shapers_syllabic.proofs.ot_shaper_syllabic.laws.spans_cut_law.Goals as goal

pub returns : goal.returns
returns c = spans_cut
