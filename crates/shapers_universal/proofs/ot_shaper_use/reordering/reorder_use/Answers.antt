-- What the pause requires of numbers, and the laws of a hook that reorders, from its steps.
use Rattle.std.proofs.lemmas.Result.{on_ok_weaker}
use Rattle.shapers_syllabic.proofs.LinkedSyllables.{takes_any}
use Rattle.shapers_universal.specs.Proved.UniversalSteps.{universal_moves}
use Rattle.shapers_universal.proofs.ot_shaper_use.reordering.reorder_use.Goals as goal

pub reorder_pause-requires-clause-takes : goal.reorder_pause-requires-clause-takes
reorder_pause-requires-clause-takes = search takes_any

pub returns-clause-laws : goal.returns-clause-laws
returns-clause-laws g c =
    on_ok_weaker c.reorder_pause.result (λ laws. laws.merged universal_moves) c.reorder_pause.ensures.laws
