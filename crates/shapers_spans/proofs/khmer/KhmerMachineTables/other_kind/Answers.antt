use Rattle.std.proofs.Common.{refl}
use Rattle.shapers_spans.specs.Khmer.{khmer_grammar}
use Rattle.shapers_spans.proofs.khmer.KhmerMachineTables.other_kind.Goals as goal

pub returns-clause-kind : goal.returns-clause-kind
unfolding khmer_grammar
returns-clause-kind c = refl
