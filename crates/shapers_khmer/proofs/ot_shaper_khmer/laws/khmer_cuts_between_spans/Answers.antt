use Rattle.shapers_khmer.proofs.KhmerByMovers as proofs
use Rattle.shapers_khmer.proofs.ot_shaper_khmer.laws.khmer_cuts_between_spans.Goals as goal

pub returns : goal.returns
returns c = proofs.khmer_cuts_between_spans
