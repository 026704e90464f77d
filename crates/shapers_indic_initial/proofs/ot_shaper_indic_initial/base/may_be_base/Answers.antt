-- A glyph at the place, and none.
use Rattle.std.proofs.Common.{rules}
use Rattle.std.proofs.lemmas.Option.{slice_get_past, slice_get_read}
use Rattle.shapers_indic_initial.proofs.ot_shaper_indic_initial.base.may_be_base.Goals as goal

pub returns-in-Some : goal.returns-in-Some
returns-in-Some c = search (rules, slice_get_read)

pub returns-in-None : goal.returns-in-None
returns-in-None c = search (rules, slice_get_past)
