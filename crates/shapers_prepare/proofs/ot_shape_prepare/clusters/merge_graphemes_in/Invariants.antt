-- The graphemes before the one that starts there are merged, but for a range that isn't written yet.
use Rattle.std.proofs.Common.{◌≡◌, ◌<◌, drop}
use Rattle.shapers_buffer.specs.Clusters.{merge_all}
use Rattle.shapers_buffer.specs.ClusterRanges.{RangeFits, with_range}
use Rattle.shapers_prepare.specs.Graphemes.{continuations, graphemes, graphemes_from}
use Rattle.shapers_prepare.proofs.ot_shape_prepare.clusters.merge_graphemes_in.Given as goal

abbrev pub invariant-loop-i : goal.invariant-loop-i
invariant-loop-i l =
    let all = l.initial.glyphs in
    record {
      fits : RangeFits l.pending l.glyphs;
      in_order : l.start < l.i;
      same : continuations l.glyphs ≡ continuations all;
      merged : merge_all l.level (graphemes_from l.start l.i (drop l.i (continuations all))) (with_range l.pending l.glyphs)
          ≡ merge_all l.level (graphemes all) all;
    }
