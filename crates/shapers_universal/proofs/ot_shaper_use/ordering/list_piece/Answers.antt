-- The three parts of a piece.
use Rattle.std.proofs.Common.{arith}
use Rattle.shapers_universal.proofs.UniversalListing.{listed_twice, both_counted, reph_counted}
use Rattle.shapers_universal.proofs.ot_shaper_use.ordering.list_piece.Goals as goal

pub list_reph-at-requires-clause-in_range : goal.list_reph-at-requires-clause-in_range
list_reph-at-requires-clause-in_range = search (arith, both_counted)

pub list_reph-at-requires-clause-fits : goal.list_reph-at-requires-clause-fits
list_reph-at-requires-clause-fits = search (arith, both_counted)

pub list_rest-requires-clause-room : goal.list_rest-requires-clause-room
list_rest-requires-clause-room = search (arith, both_counted)

pub returns : goal.returns
returns = search (arith, listed_twice, reph_counted)
