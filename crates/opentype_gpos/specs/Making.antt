-- What a move at a place makes of a text.
use Rattle.std.specs.Prelude.{◌+◌, ℕ, nat_lt, length, if◌then◌else◌}
use Rattle.shapers_buffer.specs.Glyphs.{Glyphs}
use Rattle.shapers_buffer.specs.declared.buffer.level.Direction.{Direction}
use Rattle.opentype_gpos.specs.Joined.{cursive_moved}
use Rattle.opentype_gpos.specs.Moved.{Positions, Progress, mark_moved, pair_moved, value_added}
use Rattle.opentype_gpos.specs.declared.moves.Move.{Move}
use Rattle.opentype_gpos.specs.declared.moves.Move.TheVariants.{Adds, Attaches, Joins, Kerns}

-- what a move makes of a text, and the place that comes next
unfoldable pub moved : Direction → Move → ℕ → Glyphs → Positions → Progress
moved direction (Adds value) at gs ps =
    record { glyphs = gs; positions = value_added direction value at ps; next = at + 1 }
moved direction (Kerns pair) at gs ps = if nat_lt pair.second (length gs)
    then pair_moved direction pair at gs ps else record {
      glyphs = gs;
      positions = ps;
      next = at +
          1;
    }
moved direction (Attaches mark) at gs ps = mark_moved mark at gs ps
moved direction (Joins it) at gs ps = if nat_lt it.before (length ps)
    then cursive_moved direction it at gs ps else record {
      glyphs = gs;
      positions = ps;
      next = at +
          1;
    }
