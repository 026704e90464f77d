-- No halant from here on.
use Rattle.std.proofs.Common.{◌≡◌, ◌+◌, ◌-◌, ◌≤◌}
use Rattle.shapers_buffer.specs.Clusters.{stretch_of}
use Rattle.shapers_universal.specs.UniversalWalk.{start_from}
use Rattle.shapers_universal.proofs.ot_shaper_use.ordering.piece_start.Given as goal

abbrev pub invariant-loop-end : goal.invariant-loop-end
invariant-loop-end l = record {
  so : start_from l.start l.start (stretch_of l.start l.index l.glyphs) ≡ start_from l.start l.start (stretch_of l.start (l.end - 1) l.glyphs);
  from : l.start + 1 ≤ l.end;
  within : l.end ≤ l.index + 1;
}
