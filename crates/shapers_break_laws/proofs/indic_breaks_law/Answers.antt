use Rattle.shapers_break_laws.proofs.IndicChain.{indic_chain, indic_pauses, initial_reordered_apart}
use Rattle.shapers_break_laws.proofs.indic_breaks_law.Goals as goal

pub returns-clause-chain : goal.returns-clause-chain
returns-clause-chain c = indic_chain c.initial_reorder_laws.ensures.by_font c.order_by_font_reads_no_serials.ensures
    c.final_reorder_laws.ensures c.final_text_laws.ensures

pub returns-clause-pauses : goal.returns-clause-pauses
returns-clause-pauses c = indic_pauses c.initial_reorder_laws.ensures.by_font c.order_by_font_reads_no_serials.ensures
    c.final_reorder_laws.ensures c.final_text_laws.ensures

pub returns-clause-initial : goal.returns-clause-initial
returns-clause-initial c = initial_reordered_apart c.initial_reorder_laws.ensures.by_font
    c.order_by_font_reads_no_serials.ensures
