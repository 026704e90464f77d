-- The merges done, but for a range that isn't written yet, and those to come.
use Rattle.shapers_buffer.specs.ClusterRanges.{RangeFits, with_range}
use Rattle.shapers_text.proofs.ThaiStretches.{Merging}
use Rattle.shapers_text.proofs.ot_shaper_thai.sara_am.merge_all_sara_am.Given as goal

abbrev pub invariant-loop-i : goal.invariant-loop-i
invariant-loop-i l = record {
  fits : RangeFits l.pending l.glyphs;
  merging : Merging l.level l.initial.glyphs (with_range l.pending l.glyphs) l.len l.i;
}
