-- The graphemes before the one that starts there are turned, each by itself.
use Rattle.std.proofs.Common.{◌<◌, drop}
use Rattle.shapers_prepare.specs.Graphemes.{continuations, graphemes_from}
use Rattle.shapers_prepare.proofs.TurningSteps.{Turned}
use Rattle.shapers_prepare.proofs.ot_shape_prepare.direction.reverse_graphemes_in.Given as goal

abbrev pub invariant-loop-i : goal.invariant-loop-i
invariant-loop-i l =
    let all = l.initial.glyphs in
    record {
      in_order : l.start < l.i;
      turned : Turned all l.glyphs l.start (graphemes_from l.start l.i (drop l.i (continuations all)));
    }
