use Rattle.std.proofs.Common.{refl}
use Rattle.shapers_spans.specs.Universal.{universal_grammar}
use Rattle.shapers_spans.proofs.universal.UniversalMachineTables.other_kind.Goals as goal

pub returns-clause-kind : goal.returns-clause-kind
unfolding universal_grammar
returns-clause-kind c = refl
