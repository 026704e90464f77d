-- A character that jamo or a tone doesn't follow.
use Rattle.std.proofs.Common.{arith}
use Rattle.shapers_hangul.proofs.Items.{lone_first}
use Rattle.shapers_hangul.proofs.ot_shaper_hangul.item.read_item.Goals as goal

pub returns-then-not-follows : goal.returns-then-not-follows
returns-then-not-follows = search (arith, lone_first)
