-- What is written, and what the text behind becomes, is the whole.
use Rattle.std.proofs.Common.{◌≡◌, ◌≤◌, ◌++◌, ◌-◌, drop, length}
use Rattle.std.specs.Prelude.{vec_capacity}
use Rattle.shapers_normal.specs.Variants.{forms_written}
use Rattle.shapers_normal.proofs.ot_shape_normalize.variants.write_forms.Given as goal

abbrev pub invariant-loop-start : goal.invariant-loop-start
invariant-loop-start g l = record {
  text : l.to.items ++ forms_written (g.C.NormalizeContext.context l.context) (drop l.start l.cluster)
      ≡ l.initial.to.items ++ forms_written (g.C.NormalizeContext.context l.context) l.cluster;
  capacity : vec_capacity l.initial.to ≤ vec_capacity l.to;
  within : l.start ≤ length l.cluster;
}

abbrev pub decreases-loop-start : goal.decreases-loop-start
decreases-loop-start g l = length l.cluster - l.start
