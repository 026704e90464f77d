-- So many glyphs have come past the others.
use Rattle.std.proofs.Common.{◌≡◌}
use Rattle.std.specs.List.{slice_rotate_right}
use Rattle.shapers_buffer.proofs.buffer.placement.bring_last.Given as goal

abbrev pub invariant-loop : goal.invariant-loop
invariant-loop l = record { brought : l.glyphs ≡ slice_rotate_right l.fn.glyphs l.counter }
