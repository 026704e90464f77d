-- The groups so far are read.
use Rattle.std.proofs.Common.{◌≡◌, take}
use Rattle.shapers_clusters.specs.CarriedGroups.{read_back}
use Rattle.shapers_clusters.proofs.carried_groups.read_groups.Given as goal

abbrev pub invariant-loop-i : goal.invariant-loop-i
invariant-loop-i l = l.groups ≡ read_back (take l.i l.glyphs) l.initial.groups
