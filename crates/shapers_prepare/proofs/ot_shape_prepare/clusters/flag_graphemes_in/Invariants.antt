-- The graphemes before the one that starts there are flagged.
use Rattle.std.proofs.Common.{◌≡◌, ◌<◌, drop}
use Rattle.shapers_buffer.specs.GlyphFlags.{unsafe_all}
use Rattle.shapers_prepare.specs.Graphemes.{continuations, graphemes, graphemes_from}
use Rattle.shapers_prepare.proofs.ot_shape_prepare.clusters.flag_graphemes_in.Given as goal

abbrev pub invariant-loop-i : goal.invariant-loop-i
invariant-loop-i l =
    let all = l.initial.glyphs in
    record {
      in_order : l.start < l.i;
      same : continuations l.glyphs ≡ continuations all;
      flagged : unsafe_all (graphemes_from l.start l.i (drop l.i (continuations all))) l.glyphs
          ≡ unsafe_all (graphemes all) all;
    }
