-- What stands from this place on decides.
use Rattle.std.proofs.Common.{◌≡◌, ◌≤◌}
use Rattle.std.specs.List.{list_any}
use Rattle.shapers_buffer.specs.Clusters.{stretch_of}
use Rattle.shapers_indic_final.specs.FinalMatras.{is_left}
use Rattle.shapers_indic_final.proofs.ot_shaper_indic_final.left_matras.has_left.Given as goal

abbrev pub invariant-loop-i : goal.invariant-loop-i
invariant-loop-i l = (l.start ≤ l.i)
    × (list_any is_left (stretch_of l.i l.end l.glyphs) ≡ list_any is_left (stretch_of l.start l.end l.glyphs))
