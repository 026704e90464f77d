-- The laws hold.
use Rattle.shapers_arabic.proofs.BreakLists.{as-code, exact}
use Rattle.shapers_arabic.proofs.ot_shaper_arabic.laws.joining_breaks_law.Goals as goal

pub returns-clause-as_code : goal.returns-clause-as_code
returns-clause-as_code c = as-code

pub returns-clause-exact : goal.returns-clause-exact
returns-clause-exact c = exact
