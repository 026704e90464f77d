-- So many glyphs are put where they come from.
use Rattle.std.proofs.Common.{◌≡◌, ◌+◌, length, take}
use Rattle.shapers_buffer.specs.Clusters.{with_stretch}
use Rattle.shapers_buffer.specs.Placements.{placed_by_all}
use Rattle.shapers_buffer.proofs.buffer.placements.put_back.Given as goal

abbrev pub invariant-loop-i : goal.invariant-loop-i
invariant-loop-i l = record {
  long : length l.glyphs ≡ length l.fn.glyphs;
  put : placed_by_all l.placements l.start l.end l.places l.glyphs
      ≡ with_stretch l.start (l.start + l.i) (λ _. take l.i l.from)
      (placed_by_all l.placements l.start l.end l.places l.fn.glyphs);
}
