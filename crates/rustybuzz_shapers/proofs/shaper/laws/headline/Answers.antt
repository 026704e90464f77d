use Rattle.rustybuzz_shapers.proofs.Headline.{actions_by_rule}
use Rattle.rustybuzz_shapers.proofs.Regrouped.{syllables_regrouped}
use Rattle.rustybuzz_shapers.proofs.shaper.laws.headline.Goals as goal

pub returns-clause-actions : goal.returns-clause-actions
returns-clause-actions c = actions_by_rule

pub returns-clause-syllables : goal.returns-clause-syllables
returns-clause-syllables c = syllables_regrouped
