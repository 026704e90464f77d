-- The glyphs that stay so far, and what becomes of the rest behind them.
use Rattle.std.proofs.Common.{◌≡◌, ◌≤◌, ◌+◌, [], drop, take}
use Rattle.std.specs.Prelude.{count_by}
use Rattle.shapers_position.specs.Ignorables.{stays_in_text, removed_behind}
use Rattle.shapers_position.proofs.ot_shape_position.hiding.remove_glyphs.Given as goal

abbrev pub invariant-loop-i : goal.invariant-loop-i
invariant-loop-i l = record {
  few : l.kept ≤ l.i;
  count : l.kept + count_by stays_in_text (drop l.i l.glyphs) ≡ count_by stays_in_text l.initial.glyphs;
  removed : removed_behind (take l.kept l.glyphs) (drop l.i l.glyphs) ≡ removed_behind [] l.initial.glyphs;
}
