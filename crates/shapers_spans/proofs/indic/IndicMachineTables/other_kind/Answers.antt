use Rattle.std.proofs.Common.{refl}
use Rattle.shapers_spans.specs.Indic.{indic_grammar}
use Rattle.shapers_spans.proofs.indic.IndicMachineTables.other_kind.Goals as goal

pub returns-clause-kind : goal.returns-clause-kind
unfolding indic_grammar
returns-clause-kind c = refl
