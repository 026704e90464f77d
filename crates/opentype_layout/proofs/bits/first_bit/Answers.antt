use Rattle.std.proofs.Common.{rules, arith, refl, ◌+◌, ◌*◌, ◌/◌}
use Rattle.opentype_layout.proofs.BitPlaces.{clear_join, rest_first, rest_none}
use Rattle.opentype_layout.proofs.bits.first_bit.Goals as goal

pub returns-then-rest-ne0-clause-clear : goal.returns-then-rest-ne0-clause-clear
returns-then-rest-ne0-clause-clear c = rw c.min.ensures (rest_first _ _ _ _ refl (search rules) (search rules) (omega arith))

pub returns-clause-clear : goal.returns-clause-clear
returns-clause-clear c = clear_join _ _ ((c.args.from / 64 + 1) * 64) _
    (rest_none _ _ _ refl (omega arith)) c.first_bit_among.ensures.clear
