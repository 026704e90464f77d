-- The positions that stay so far, and those behind that do.
use Rattle.std.proofs.Common.{◌≡◌, ◌≤◌, ◌+◌, ◌++◌, drop, take}
use Rattle.std.specs.Prelude.{count_by}
use Rattle.shapers_position.specs.Ignorables.{stays_in_text, positions_kept}
use Rattle.shapers_position.proofs.ot_shape_position.hiding.remove_positions.Given as goal

abbrev pub invariant-loop-i : goal.invariant-loop-i
invariant-loop-i l = record {
  few : l.kept ≤ l.i;
  count : l.kept + count_by stays_in_text (drop l.i l.glyphs) ≡ count_by stays_in_text l.glyphs;
  moved : take l.kept l.positions ++ positions_kept (drop l.i l.glyphs) (drop l.i l.positions)
      ≡ positions_kept l.glyphs l.initial.positions;
}
