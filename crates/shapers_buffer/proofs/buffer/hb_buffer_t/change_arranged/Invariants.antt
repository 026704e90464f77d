-- So many places are changed.
use Rattle.std.proofs.Common.{◌≡◌, ◌≤◌, length, map}
use Rattle.shapers_buffer.specs.Clusters.{with_stretch}
use Rattle.shapers_buffer.specs.Placements.{placed_by_all}
use Rattle.shapers_buffer.proofs.buffer.hb_buffer_t.change_arranged.Given as goal

abbrev pub invariant-loop-i : goal.invariant-loop-i
invariant-loop-i g l = record {
  others : l.self ≡ record l.fn.self { glyphs = l.self.glyphs };
  long : length l.self.glyphs ≡ length l.fn.self.glyphs;
  from : l.from ≤ l.i;
  changed : placed_by_all l.placements l.start l.end l.fn.self.places l.self.glyphs
      ≡ with_stretch l.from l.i (map (g.C.GlyphChange.changed l.change))
      (placed_by_all l.placements l.start l.end l.fn.self.places l.fn.self.glyphs);
}
