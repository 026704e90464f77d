use Rattle.std.proofs.Common.{◌*◌}
use Rattle.opentype_layout.specs.Bits.{IsClear}
use Rattle.opentype_layout.proofs.bits.first_bit_among.Given as goal

abbrev pub invariant-loop-i : goal.invariant-loop-i
invariant-loop-i l = IsClear l.words (l.from * 64) (l.i * 64)
