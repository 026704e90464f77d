use Rattle.shapers_found_laws.proofs.FoundOpenings.{set-up-at-most-one}
use Rattle.shapers_found_laws.proofs.KeptCategories.{kept-at-most-one, opens-with-one}
use Rattle.shapers_found_laws.proofs.OnceInRules.{indic-few, khmer-few, universal-few}
use Rattle.shapers_found_laws.proofs.found_rephas_law.Goals as goal

pub returns-clause-indic : goal.returns-clause-indic
returns-clause-indic c = indic-few

pub returns-clause-khmer : goal.returns-clause-khmer
returns-clause-khmer c = khmer-few

pub returns-clause-universal : goal.returns-clause-universal
returns-clause-universal c = universal-few

pub returns-clause-set_up : goal.returns-clause-set_up
returns-clause-set_up c = set-up-at-most-one

pub returns-clause-kept : goal.returns-clause-kept
returns-clause-kept c = kept-at-most-one

pub returns-clause-opens : goal.returns-clause-opens
returns-clause-opens c = opens-with-one
