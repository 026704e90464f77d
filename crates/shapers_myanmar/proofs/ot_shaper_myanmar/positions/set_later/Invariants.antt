-- The glyphs that are done, and what becomes of the rest.
use Rattle.std.proofs.Common.{◌≡◌, ◌++◌, take, drop}
use Rattle.shapers_myanmar.specs.Myanmar.{parts_positioned, with_own_positions}
use Rattle.shapers_myanmar.specs.MyanmarWalk.{behind_part}
use Rattle.shapers_myanmar.proofs.ot_shaper_myanmar.positions.set_later.Given as goal

abbrev pub invariant-loop-glyph : goal.invariant-loop-glyph
invariant-loop-glyph l =
    take l.glyph-index l.glyphs ++ with_own_positions l.before (behind_part l.part (drop l.glyph-index l.glyphs))
    ≡ with_own_positions 4 (parts_positioned l.initial.glyphs)
