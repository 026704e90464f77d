-- One form written.
use Rattle.std.proofs.Math.Seq.{map-set_same}
use Rattle.std.proofs.Common.{arith}
use Rattle.std.proofs.lemmas.List.{map-set}
use Rattle.shapers_arabic.proofs.ot_shaper_arabic.joining.set_form.Goals as goal

pub returns-clause-others : goal.returns-clause-others
returns-clause-others = search (arith, map-set_same)

pub returns-clause-forms : goal.returns-clause-forms
returns-clause-forms = search (arith, map-set)
