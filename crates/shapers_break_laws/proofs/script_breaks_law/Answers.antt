use Rattle.shapers_break_laws.proofs.ScriptBreaks.{khmer_breaks, myanmar_breaks, myanmar_short, universal_breaks}
use Rattle.shapers_break_laws.proofs.script_breaks_law.Goals as goal

pub returns-clause-khmer : goal.returns-clause-khmer
returns-clause-khmer c = khmer_breaks c.khmer_reorder_laws.ensures.laws c.khmer_reorder_laws.ensures.merged
    c.khmer_reads_no_serials.ensures

pub returns-clause-myanmar : goal.returns-clause-myanmar
returns-clause-myanmar c = myanmar_breaks c.myanmar_reorder_laws.ensures.laws c.myanmar_reorder_laws.ensures.merged
    c.myanmar_reads_no_serials.ensures

pub returns-clause-universal : goal.returns-clause-universal
returns-clause-universal c = universal_breaks c.universal_reorder_laws.ensures.laws
    c.universal_reorder_laws.ensures.merged c.universal_cuts_between_spans.ensures

pub returns-clause-myanmar_rephas : goal.returns-clause-myanmar_rephas
returns-clause-myanmar_rephas c = myanmar_short
