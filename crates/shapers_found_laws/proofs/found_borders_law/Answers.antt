use Rattle.shapers_found_laws.proofs.FoundBorders.{found-borders, indic-opens-with, khmer-opens-with, myanmar-opens-with, universal-opens-with}
use Rattle.shapers_found_laws.proofs.found_borders_law.Goals as goal

pub returns-clause-indic : goal.returns-clause-indic
returns-clause-indic c = indic-opens-with

pub returns-clause-khmer : goal.returns-clause-khmer
returns-clause-khmer c = khmer-opens-with

pub returns-clause-myanmar : goal.returns-clause-myanmar
returns-clause-myanmar c = myanmar-opens-with

pub returns-clause-universal : goal.returns-clause-universal
returns-clause-universal c = universal-opens-with

pub returns-clause-part : goal.returns-clause-part
returns-clause-part c = found-borders
