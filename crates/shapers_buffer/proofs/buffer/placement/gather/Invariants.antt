use Rattle.std.proofs.Common.{◌≡◌, take}
use Rattle.shapers_buffer.specs.Places.{pick}
use Rattle.shapers_buffer.proofs.buffer.placement.gather.Given as goal

abbrev pub invariant-loop-i : goal.invariant-loop-i
invariant-loop-i l = take l.i l.to ≡ pick (take l.i l.places) l.glyphs
