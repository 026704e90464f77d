-- No halant so far.
use Rattle.std.proofs.Common.{◌≡◌, ◌+◌, drop}
use Rattle.shapers_universal.specs.Universal.{is_universal_halant}
use Rattle.shapers_universal.specs.UniversalWalk.{first_piece_len}
use Rattle.shapers_universal.proofs.ot_shaper_use.ordering.piece_len.Given as goal

abbrev pub invariant-loop-i : goal.invariant-loop-i
invariant-loop-i l = first_piece_len is_universal_halant l.glyphs
    ≡ l.i + first_piece_len is_universal_halant (drop l.i l.glyphs)
