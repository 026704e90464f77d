-- All is the same, with more groups.
use Rattle.std.proofs.Common.{◌-◌, ◌≡◌, ◌≤◌, length}
use Rattle.shapers_clusters.specs.CarriedGroups.{AreCarried, with_groups}
use Rattle.shapers_clusters.proofs.carried_groups.CarriedGroups.add_groups_to.Given as goal

abbrev pub invariant-loop-self : goal.invariant-loop-self
invariant-loop-self l = record {
  same : with_groups l.self l.glyphs ≡ with_groups l.initial.self l.initial.glyphs;
  fits : AreCarried l.self l.glyphs;
  within : l.self.end ≤ l.place;
  same_length : length l.glyphs ≡ length l.initial.glyphs;
}

abbrev pub decreases-loop-self : goal.decreases-loop-self
decreases-loop-self l = l.place - l.self.end
