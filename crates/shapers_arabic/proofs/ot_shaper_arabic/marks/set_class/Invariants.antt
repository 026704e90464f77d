-- The marks that are done, and what becomes of the rest.
use Rattle.std.proofs.Common.{◌≡◌, ◌++◌, map, take, drop}
use Rattle.shapers_arabic.specs.Marks.{in_class}
use Rattle.shapers_arabic.proofs.ot_shaper_arabic.marks.set_class.Given as goal

abbrev pub invariant-loop-mark : goal.invariant-loop-mark
invariant-loop-mark l = take l.mark-index l.marks ++ map (in_class l.class) (drop l.mark-index l.marks)
    ≡ map (in_class l.class) l.initial.marks
