use Rattle.shapers_break_laws.proofs.FinalBreaks.{final_text_breaks}
use Rattle.shapers_break_laws.proofs.final_breaks_law.Goals as goal

pub returns : goal.returns
returns c = final_text_breaks c.final_reorder_laws.ensures c.final_text_laws.ensures
