-- The clusters that are done, and what becomes of the rest.
use Rattle.std.proofs.Common.{◌≡◌, ◌≤◌, ◌++◌, ◌-◌, drop, length, take}
use Rattle.shapers_position.specs.ClusterFlags.{flags_propagated}
use Rattle.shapers_position.proofs.ot_shape_position.flags.propagate_in.Given as goal

abbrev pub invariant-loop-start : goal.invariant-loop-start
invariant-loop-start l = record {
  done : take l.start l.glyphs ++ flags_propagated l.wanted (drop l.start l.glyphs)
      ≡ flags_propagated l.wanted l.initial.glyphs;
  within : l.start ≤ length l.initial.glyphs;
}

abbrev pub decreases-loop-start : goal.decreases-loop-start
decreases-loop-start l = length l.initial.glyphs - l.start
