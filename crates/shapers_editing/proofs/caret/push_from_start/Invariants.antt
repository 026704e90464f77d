use Rattle.std.proofs.Common.{◌≡◌, ◌≤◌, reverse, take}
use Rattle.std.specs.Prelude.{vec_capacity}
use Rattle.shapers_buffer.specs.Glyph.{clusters}
use Rattle.shapers_editing.specs.Carets.{lesser}
use Rattle.shapers_editing.proofs.caret.push_from_start.Given as goal

-- The stops of the text from its last glyph on.
abbrev pub invariant-loop-glyph : goal.invariant-loop-glyph
invariant-loop-glyph l = record {
  capacity : vec_capacity l.initial.stops ≤ vec_capacity l.stops;
  stops : l.stops.items ≡ reverse (lesser (reverse (clusters (take l.glyph-index l.glyphs))));
}
