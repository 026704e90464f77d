-- One place back: it goes to the front, or stays.
use Rattle.std.proofs.Common.{arith}
use Rattle.shapers_universal.proofs.UniversalListing.{fronts_back}
use Rattle.shapers_universal.specs.Proved.UniversalPlaces.{goes_front_is}
use Rattle.shapers_universal.proofs.ot_shaper_use.ordering.list_fronts.Goals as goal

pub loop-i-preserved-then-goes_front : goal.loop-i-preserved-then-goes_front
loop-i-preserved-then-goes_front = search (arith, fronts_back, goes_front_is)

pub loop-i-preserved : goal.loop-i-preserved
loop-i-preserved = search (arith, fronts_back, goes_front_is)
