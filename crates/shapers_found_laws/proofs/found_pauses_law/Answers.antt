use Rattle.shapers_found_laws.proofs.FoundPauses.{khmer-circles-sort, khmer-pauses, khmer-stages, myanmar-circles-sort, myanmar-pauses, myanmar-stages}
use Rattle.shapers_found_laws.proofs.found_pauses_law.Goals as goal

pub returns-clause-khmer : goal.returns-clause-khmer
returns-clause-khmer c = khmer-pauses

pub returns-clause-myanmar : goal.returns-clause-myanmar
returns-clause-myanmar c = myanmar-pauses

pub returns-clause-known_in_khmer : goal.returns-clause-known_in_khmer
returns-clause-known_in_khmer c = khmer-stages

pub returns-clause-known_in_myanmar : goal.returns-clause-known_in_myanmar
returns-clause-known_in_myanmar c = myanmar-stages

pub returns-clause-circles_in_khmer : goal.returns-clause-circles_in_khmer
returns-clause-circles_in_khmer c = khmer-circles-sort c.monotone_law.ensures.circles

pub returns-clause-circles_in_myanmar : goal.returns-clause-circles_in_myanmar
returns-clause-circles_in_myanmar c = myanmar-circles-sort c.monotone_law.ensures.circles
