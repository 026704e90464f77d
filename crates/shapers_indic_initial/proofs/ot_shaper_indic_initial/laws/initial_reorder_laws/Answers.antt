use Rattle.shapers_indic_initial.proofs.FontPositions.{order_by_font_laws}
use Rattle.shapers_indic_initial.specs.Proved.InitialLaws.{initial_laws}
use Rattle.shapers_indic_initial.proofs.ot_shaper_indic_initial.laws.initial_reorder_laws.Goals as goal

pub returns-clause-order : goal.returns-clause-order
returns-clause-order c = initial_laws

pub returns-clause-by_font : goal.returns-clause-by_font
returns-clause-by_font c = order_by_font_laws
