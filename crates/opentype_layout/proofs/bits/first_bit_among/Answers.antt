use Rattle.std.proofs.Common.{rules, arith, ◌*◌}
use Rattle.opentype_layout.proofs.BitPlaces.{clear_join, word_first}
use Rattle.opentype_layout.proofs.bits.first_bit_among.Goals as goal

pub returns-then-word-ne0-clause-clear : goal.returns-then-word-ne0-clause-clear
returns-then-word-ne0-clause-clear c = rw c.min.ensures (clear_join _ _ (c.loop-i.i * 64) _ c.loop-i.invariant
    (word_first _ c.loop-i.i _ _ (search rules) (search rules) (omega arith)))
