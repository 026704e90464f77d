use Rattle.shapers_found_laws.proofs.FoundIndic.{indic-knows, indic-opens, indic-sorts, others-know}
use Rattle.shapers_found_laws.proofs.found_indic_law.Goals as goal

pub returns-clause-opens : goal.returns-clause-opens
returns-clause-opens c = indic-opens

pub returns-clause-sorts : goal.returns-clause-sorts
returns-clause-sorts c = indic-sorts c.monotone_law.ensures.circles

pub returns-clause-known : goal.returns-clause-known
returns-clause-known c = indic-knows

pub returns-clause-others : goal.returns-clause-others
returns-clause-others c = others-know
