-- No left matra stands from this place on, so the buffer is as it was.
use Rattle.std.specs.Prelude.{◌≡◌, ◌≤◌, []}
use Rattle.shapers_buffer.specs.Clusters.{stretch_of}
use Rattle.shapers_indic_final.proofs.FinalPlacing.{lefts_from}
use Rattle.shapers_indic_final.proofs.ot_shaper_indic_final.left_matras.gather_matras.Given as goal

abbrev pub invariant-loop-i : goal.invariant-loop-i
invariant-loop-i l =
    (l.i ≤ l.target) × ((l.buffer ≡ l.fn.buffer) × (lefts_from l.i l.target (stretch_of l.start l.end l.fn.buffer.glyphs) ≡ []))
