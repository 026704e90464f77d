-- The groups so far are shown.
use Rattle.std.proofs.Common.{◌≡◌, take}
use Rattle.shapers_clusters.specs.CarriedGroups.{shown_groups}
use Rattle.shapers_clusters.proofs.carried_groups.show_groups.Given as goal

abbrev pub invariant-loop-i : goal.invariant-loop-i
invariant-loop-i l = l.glyphs ≡ shown_groups (take l.i l.groups) l.initial.glyphs
