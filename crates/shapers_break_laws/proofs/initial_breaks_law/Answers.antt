use Rattle.shapers_break_laws.proofs.IndicBreaks.{initial_pauses_break, initial_text_breaks}
use Rattle.shapers_break_laws.proofs.initial_breaks_law.Goals as goal

pub returns-clause-pauses : goal.returns-clause-pauses
returns-clause-pauses c = initial_pauses_break c.initial_reorder_laws.ensures.by_font
    c.order_by_font_reads_no_serials.ensures

pub returns-clause-text : goal.returns-clause-text
returns-clause-text c = initial_text_breaks c.initial_reorder_laws.ensures.by_font
