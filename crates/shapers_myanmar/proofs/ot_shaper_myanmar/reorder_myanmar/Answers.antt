-- What the pause requires of numbers; the laws of a hook that reorders, since each syllable moves
-- only inside what merged.
use Rattle.shapers_myanmar.proofs.Inside.{on_merged}
use Rattle.shapers_syllabic.proofs.LinkedSyllables.{takes_any}
use Rattle.shapers_myanmar.proofs.ot_shaper_myanmar.reorder_myanmar.Goals as goal

pub reorder_pause-requires-clause-takes : goal.reorder_pause-requires-clause-takes
reorder_pause-requires-clause-takes = search takes_any

pub returns-clause-laws : goal.returns-clause-laws
returns-clause-laws g c = search on_merged
