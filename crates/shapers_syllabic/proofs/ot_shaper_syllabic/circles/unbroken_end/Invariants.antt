-- None of the kind behind.
use Rattle.std.proofs.Common.{◌≡◌, ◌+◌, ◌-◌, length, take}
use Rattle.std.specs.List.{suffix_len}
use Rattle.shapers_syllabic.specs.FirstBroken.{is_of_other_kind}
use Rattle.shapers_syllabic.proofs.ot_shaper_syllabic.circles.unbroken_end.Given as goal

abbrev pub invariant-loop-i : goal.invariant-loop-i
invariant-loop-i l = suffix_len (is_of_other_kind l.kind) l.glyphs
    ≡ (length l.glyphs - l.i) + suffix_len (is_of_other_kind l.kind) (take l.i l.glyphs)
