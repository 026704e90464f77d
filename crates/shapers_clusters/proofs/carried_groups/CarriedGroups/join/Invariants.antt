-- All is the same, with fewer groups.
use Rattle.std.proofs.Common.{◌≡◌, length}
use Rattle.shapers_clusters.specs.CarriedGroups.{AreCarried, with_groups}
use Rattle.shapers_clusters.proofs.carried_groups.CarriedGroups.join.Given as goal

abbrev pub invariant-loop-self : goal.invariant-loop-self
invariant-loop-self l = record {
  same : with_groups l.self l.glyphs ≡ with_groups l.initial.self l.initial.glyphs;
  fits : AreCarried l.self l.glyphs;
  end : l.self.end ≡ l.initial.self.end;
  same_length : length l.glyphs ≡ length l.initial.glyphs;
}

abbrev pub decreases-loop-self : goal.decreases-loop-self
decreases-loop-self l = length l.self.groups.items
