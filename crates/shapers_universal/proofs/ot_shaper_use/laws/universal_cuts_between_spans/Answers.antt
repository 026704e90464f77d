use Rattle.shapers_universal.proofs.UniversalSerials as proofs
use Rattle.shapers_universal.proofs.ot_shaper_use.laws.universal_cuts_between_spans.Goals as goal

pub returns : goal.returns
returns c = proofs.universal_cuts_between_spans
