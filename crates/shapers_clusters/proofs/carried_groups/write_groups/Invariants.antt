-- The groups so far are written.
use Rattle.std.proofs.Common.{◌≡◌, ◌+◌, ◌≤◌, ◌++◌, drop, length, take}
use Rattle.shapers_clusters.specs.CarriedGroups.{grouped, len_of}
use Rattle.shapers_clusters.proofs.carried_groups.write_groups.Given as goal

abbrev pub invariant-loop-group : goal.invariant-loop-group
invariant-loop-group l = record {
  within : l.place + len_of (drop l.group-index l.groups) ≤ length l.glyphs;
  walk : take l.place l.glyphs ++ (grouped (drop l.group-index l.groups) (drop l.place l.glyphs)
      ++ drop (l.place + len_of (drop l.group-index l.groups)) l.glyphs)
      ≡ take l.start l.initial.glyphs ++ (grouped l.groups (drop l.start l.initial.glyphs)
      ++ drop (l.start + len_of l.groups) l.initial.glyphs);
}
