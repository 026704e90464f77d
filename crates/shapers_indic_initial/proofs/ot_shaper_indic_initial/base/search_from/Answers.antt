-- One place more, back.
use Rattle.shapers_indic_initial.proofs.PlaceSearch.{greatest_here, greatest_back}
use Rattle.std.proofs.Common.{arith}
use Rattle.shapers_indic_initial.proofs.ot_shaper_indic_initial.base.search_from.Goals as goal

pub returns-then-stops_search-clause-from : goal.returns-then-stops_search-clause-from
returns-then-stops_search-clause-from c = let l = c.loop-place in search (arith, greatest_here)

pub loop-place-preserved : goal.loop-place-preserved
loop-place-preserved = search (arith, greatest_back)

pub returns-clause-from : goal.returns-clause-from
returns-clause-from = search arith
