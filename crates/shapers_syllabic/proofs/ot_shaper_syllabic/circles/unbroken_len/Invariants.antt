-- None of the kind so far.
use Rattle.std.proofs.Common.{◌≡◌, ◌+◌, drop}
use Rattle.std.specs.List.{prefix_len}
use Rattle.shapers_syllabic.specs.FirstBroken.{is_of_other_kind}
use Rattle.shapers_syllabic.proofs.ot_shaper_syllabic.circles.unbroken_len.Given as goal

abbrev pub invariant-loop-i : goal.invariant-loop-i
invariant-loop-i l = prefix_len (is_of_other_kind l.kind) l.glyphs
    ≡ l.i + prefix_len (is_of_other_kind l.kind) (drop l.i l.glyphs)
