use Rattle.shapers_found_laws.proofs.FoundUniversal.{universal-opens, universal-sorts}
use Rattle.shapers_found_laws.proofs.found_universal_law.Goals as goal

pub returns-clause-opens : goal.returns-clause-opens
returns-clause-opens c = universal-opens

pub returns-clause-sorts : goal.returns-clause-sorts
returns-clause-sorts c = universal-sorts
