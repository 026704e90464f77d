use Rattle.shapers_indic_initial.proofs.InitialSerialsStay as proofs
use Rattle.shapers_indic_initial.proofs.ot_shaper_indic_initial.laws.order_by_font_reads_no_serials.Goals as goal

pub returns : goal.returns
returns c = proofs.order_by_font_reads_no_serials
