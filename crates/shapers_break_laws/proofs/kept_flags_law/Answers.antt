use Rattle.shapers_break_laws.proofs.KeptFlags.{added_clear, pauses_clear}
use Rattle.shapers_break_laws.proofs.kept_flags_law.Goals as goal

pub returns-clause-masks : goal.returns-clause-masks
returns-clause-masks c = added_clear

pub returns-clause-pauses : goal.returns-clause-pauses
returns-clause-pauses c =
    pauses_clear c.khmer_reorder_laws.ensures.laws c.khmer_reorder_laws.ensures.merged
    c.myanmar_reorder_laws.ensures.laws c.myanmar_reorder_laws.ensures.merged c.universal_reorder_laws.ensures.laws
    c.universal_reorder_laws.ensures.merged
