use Rattle.std.proofs.Common.{◌≡◌, ◌≤◌, drop, length, reverse}
use Rattle.std.specs.Prelude.{vec_capacity}
use Rattle.shapers_buffer.specs.Glyph.{clusters}
use Rattle.shapers_editing.specs.Carets.{lesser}
use Rattle.shapers_editing.proofs.caret.push_from_end.Given as goal

-- The stops of the text from its last glyph on.
abbrev pub invariant-loop-behind : goal.invariant-loop-behind
invariant-loop-behind l = record {
  within : l.behind ≤ length l.glyphs;
  capacity : vec_capacity l.initial.stops ≤ vec_capacity l.stops;
  stops : l.stops.items ≡ reverse (lesser (clusters (drop l.behind l.glyphs)));
}

abbrev pub decreases-loop-behind : goal.decreases-loop-behind
decreases-loop-behind l = l.behind
