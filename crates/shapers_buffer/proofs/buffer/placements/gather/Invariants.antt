-- So many glyphs are there.
use Rattle.std.proofs.Common.{◌≡◌, ◌-◌, length, take}
use Rattle.shapers_buffer.specs.Clusters.{stretch_of}
use Rattle.shapers_buffer.specs.Placements.{placed_by_all}
use Rattle.shapers_buffer.proofs.buffer.placements.gather.Given as goal

abbrev pub invariant-loop-i : goal.invariant-loop-i
invariant-loop-i l = record {
  long : length l.to ≡ l.end - l.start;
  gathered : take l.i l.to
      ≡ take l.i (stretch_of l.start l.end (placed_by_all l.placements l.start l.end l.places l.glyphs));
}
