-- What an item becomes has room behind what stands before it.
use Rattle.shapers_hangul.proofs.Walks.{length-item_output}
use Rattle.std.proofs.lemmas.List.{length-drop, length-append}
use Rattle.std.proofs.Common.{arith}
use Rattle.shapers_hangul.proofs.ot_shaper_hangul.rewriting.write_change.Goals as goal

pub write-requires-clause-room : goal.write-requires-clause-room
write-requires-clause-room = search (arith, length-append, length-drop, length-item_output)
