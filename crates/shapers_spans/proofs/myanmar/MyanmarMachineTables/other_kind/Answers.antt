use Rattle.std.proofs.Common.{refl}
use Rattle.shapers_spans.specs.Myanmar.{myanmar_grammar}
use Rattle.shapers_spans.proofs.myanmar.MyanmarMachineTables.other_kind.Goals as goal

pub returns-clause-kind : goal.returns-clause-kind
unfolding myanmar_grammar
returns-clause-kind c = refl
