-- The glyphs that are done, and what becomes of the rest.
use Rattle.std.proofs.Common.{◌≡◌, ◌++◌, map, take, drop}
use Rattle.shapers_buffer.specs.Glyph.{at_position}
use Rattle.shapers_myanmar.proofs.ot_shaper_myanmar.positions.set_position.Given as goal

abbrev pub invariant-loop-glyph : goal.invariant-loop-glyph
invariant-loop-glyph l = take l.glyph-index l.glyphs ++ map (at_position l.position) (drop l.glyph-index l.glyphs)
    ≡ map (at_position l.position) l.initial.glyphs
