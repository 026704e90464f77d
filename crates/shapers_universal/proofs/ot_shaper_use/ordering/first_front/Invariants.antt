-- What merges from here on.
use Rattle.std.proofs.Common.{◌≡◌}
use Rattle.shapers_buffer.specs.Clusters.{stretch_of}
use Rattle.shapers_universal.specs.UniversalWalk.{fronts_from, start_from}
use Rattle.shapers_universal.proofs.ot_shaper_use.ordering.first_front.Given as goal

abbrev pub invariant-loop-i : goal.invariant-loop-i
invariant-loop-i l = fronts_from l.start l.start (stretch_of l.start l.end l.glyphs)
    ≡ fronts_from (start_from l.start l.start (stretch_of l.start l.i l.glyphs)) l.i (stretch_of l.i l.end l.glyphs)
