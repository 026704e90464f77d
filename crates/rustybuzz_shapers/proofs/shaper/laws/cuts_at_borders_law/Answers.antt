use Rattle.std.proofs.Common.{arith}
use Rattle.rustybuzz_shapers.proofs.Cuts.{indic_is_cut, indic_is_cut_after_both, khmer_is_cut, myanmar_is_cut, universal_is_cut}
use Rattle.rustybuzz_shapers.proofs.shaper.laws.cuts_at_borders_law.Goals as goal

pub returns-clause-khmer : goal.returns-clause-khmer
returns-clause-khmer c = search (arith, khmer_is_cut)

pub returns-clause-myanmar : goal.returns-clause-myanmar
returns-clause-myanmar c = search (arith, myanmar_is_cut)

pub returns-clause-universal : goal.returns-clause-universal
returns-clause-universal c = search (arith, universal_is_cut)

pub returns-clause-initial : goal.returns-clause-initial
returns-clause-initial c = search (arith, indic_is_cut)

pub returns-clause-both : goal.returns-clause-both
returns-clause-both c = search (arith, indic_is_cut_after_both)
