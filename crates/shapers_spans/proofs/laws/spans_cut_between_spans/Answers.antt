use Rattle.shapers_spans.proofs.Alike.{none-alike}
use Rattle.shapers_spans.proofs.Cutting.{cuts-between-spans}
use Rattle.shapers_spans.proofs.laws.spans_cut_between_spans.Goals as goal

pub returns-clause-cut : goal.returns-clause-cut
returns-clause-cut c = cuts-between-spans

pub returns-clause-alike : goal.returns-clause-alike
returns-clause-alike c = none-alike
