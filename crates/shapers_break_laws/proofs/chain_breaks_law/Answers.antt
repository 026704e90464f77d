use Rattle.shapers_break_laws.proofs.ChainBreaks.{initial_chain, khmer_chain, myanmar_chain}
use Rattle.shapers_break_laws.proofs.chain_breaks_law.Goals as goal

pub returns-clause-khmer : goal.returns-clause-khmer
returns-clause-khmer c = khmer_chain c.khmer_reorder_laws.ensures.laws c.khmer_reorder_laws.ensures.merged
    c.khmer_reads_no_serials.ensures

pub returns-clause-myanmar : goal.returns-clause-myanmar
returns-clause-myanmar c = myanmar_chain c.myanmar_reorder_laws.ensures.laws c.myanmar_reorder_laws.ensures.merged
    c.myanmar_reads_no_serials.ensures

pub returns-clause-initial : goal.returns-clause-initial
returns-clause-initial c = initial_chain c.initial_reorder_laws.ensures.by_font
    c.order_by_font_reads_no_serials.ensures
