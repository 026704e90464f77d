-- So many glyphs have gone back behind the others.
use Rattle.std.proofs.Common.{◌≡◌, ◌++◌, drop, take}
use Rattle.shapers_buffer.proofs.buffer.placement.bring_first.Given as goal

abbrev pub invariant-loop : goal.invariant-loop
invariant-loop l = record { passed : l.glyphs ≡ drop l.counter l.fn.glyphs ++ take l.counter l.fn.glyphs }
