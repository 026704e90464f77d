use Rattle.shapers_found_laws.proofs.KeptCategories.{indic-kinds, khmer-kinds, myanmar-kinds, universal-kinds}
use Rattle.shapers_found_laws.proofs.found_kinds_law.Goals as goal

pub returns-clause-indic : goal.returns-clause-indic
returns-clause-indic c = indic-kinds

pub returns-clause-khmer : goal.returns-clause-khmer
returns-clause-khmer c = khmer-kinds

pub returns-clause-myanmar : goal.returns-clause-myanmar
returns-clause-myanmar c = myanmar-kinds

pub returns-clause-universal : goal.returns-clause-universal
returns-clause-universal c = universal-kinds
