-- One glyph more: it goes to the front, or stays.
use Rattle.shapers_universal.specs.Proved.UniversalFronts.{fronts_next}
use Rattle.std.proofs.Common.{arith}
use Rattle.shapers_universal.proofs.OneFront.{start_on, seen_first}
use Rattle.shapers_universal.proofs.ot_shaper_use.ordering.first_front.Goals as goal

pub returns-then-goes_front-clause-first : goal.returns-then-goes_front-clause-first
returns-then-goes_front-clause-first = search (arith, seen_first)

pub loop-i-preserved : goal.loop-i-preserved
loop-i-preserved = search (arith, fronts_next, start_on)
