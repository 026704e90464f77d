-- The room that is left, and what the glyphs behind become.
use Rattle.std.proofs.Common.{◌≡◌, ◌≤◌, ◌+◌, ◌-◌, drop, length}
use Rattle.shapers_normal.specs.Variants.{forms_written}
use Rattle.shapers_normal.proofs.ot_shape_normalize.variants.room_behind_forms.Given as goal

abbrev pub invariant-loop-start : goal.invariant-loop-start
invariant-loop-start g l = record {
  room : l.room + length (forms_written (g.C.NormalizeContext.context l.context) (drop l.start l.cluster))
      ≡ l.left + length (forms_written (g.C.NormalizeContext.context l.context) l.cluster);
  few : l.left ≤ l.room;
  within : l.start ≤ length l.cluster;
}

abbrev pub decreases-loop-start : goal.decreases-loop-start
decreases-loop-start g l = length l.cluster - l.start
