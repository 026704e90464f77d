use Rattle.rustybuzz_shapers.proofs.Lengths.{pauses_have_room, preprocessing_has_room}
use Rattle.rustybuzz_shapers.proofs.shaper.hb_ot_shaper_t.length_bound.Goals as goal

pub returns-clause-preprocessing : goal.returns-clause-preprocessing
returns-clause-preprocessing c = preprocessing_has_room

pub returns-clause-pauses : goal.returns-clause-pauses
returns-clause-pauses c = pauses_have_room
