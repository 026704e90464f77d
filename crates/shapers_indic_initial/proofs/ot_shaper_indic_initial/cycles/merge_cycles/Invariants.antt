-- The places so far are spent, and what is left merges what all cycles merge.
use Rattle.std.proofs.Common.{◌≡◌, ◌≤◌}
use Rattle.shapers_indic_initial.proofs.CycleSteps.{Merging}
use Rattle.shapers_indic_initial.proofs.ot_shaper_indic_initial.cycles.merge_cycles.Given as goal

abbrev pub invariant-loop-place : goal.invariant-loop-place
invariant-loop-place l = record {
  from : l.base ≤ l.place;
  others : l.buffer ≡ record l.fn.buffer { glyphs = l.buffer.glyphs; places = l.buffer.places };
  merging : Merging l.start l.end l.base l.place l.fn.buffer l.buffer;
}
