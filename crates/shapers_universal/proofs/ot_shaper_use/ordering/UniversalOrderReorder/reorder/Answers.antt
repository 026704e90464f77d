-- A syllable of another kind.
use Rattle.std.proofs.Common.{arith}
use Rattle.shapers_universal.specs.Proved.Reordered.{still_reordered}
use Rattle.shapers_universal.proofs.ot_shaper_use.ordering.UniversalOrderReorder.reorder.Goals as goal

pub returns-else-is_reordered-clause-related : goal.returns-else-is_reordered-clause-related
returns-else-is_reordered-clause-related c =
    let s = c.args.start in
    let e = c.args.end in
    still_reordered s e c.args.buffer.now c.requires.in_order c.requires.in_range (search arith)
