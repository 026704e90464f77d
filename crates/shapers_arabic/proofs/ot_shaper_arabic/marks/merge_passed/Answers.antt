-- The two merges, one after another.
use Rattle.std.proofs.Common.{arith}
use Rattle.shapers_arabic.proofs.MarkLaws.{two_merges}
use Rattle.shapers_arabic.proofs.ot_shaper_arabic.marks.merge_passed.Goals as goal

pub returns : goal.returns
returns = search (arith, two_merges)
