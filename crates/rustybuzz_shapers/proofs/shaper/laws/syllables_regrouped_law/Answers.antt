use Rattle.rustybuzz_shapers.proofs.Regrouped.{syllables_regrouped}
use Rattle.rustybuzz_shapers.proofs.shaper.laws.syllables_regrouped_law.Goals as goal

pub returns : goal.returns
returns c = syllables_regrouped
