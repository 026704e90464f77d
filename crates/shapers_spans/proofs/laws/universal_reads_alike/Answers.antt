use Rattle.shapers_spans.proofs.Alike.{universal-alike}
use Rattle.shapers_spans.proofs.laws.universal_reads_alike.Goals as goal

pub returns : goal.returns
returns c = universal-alike
