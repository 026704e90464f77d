-- The numbers up to here are written.
use Rattle.std.proofs.Common.{◌≡◌, take}
use Rattle.shapers_normal.specs.NumberedWords.{are_numbered}
use Rattle.shapers_normal.proofs.ot_shape_normalize.numbering.write_numbers.Given as goal

abbrev pub invariant-loop-i : goal.invariant-loop-i
invariant-loop-i l = l.glyphs ≡ are_numbered (take l.i l.numbers) l.initial.glyphs
