use Rattle.std.proofs.Common.{refl}
use Rattle.shapers_spans.specs.Universal.{universal_grammar}
use Rattle.shapers_spans.proofs.universal.UniversalMachineTables.read_from.Goals as goal

pub returns-clause-place : goal.returns-clause-place
unfolding universal_grammar
returns-clause-place c = c.next_read.ensures.place

pub returns-clause-end : goal.returns-clause-end
unfolding universal_grammar
returns-clause-end c = refl
