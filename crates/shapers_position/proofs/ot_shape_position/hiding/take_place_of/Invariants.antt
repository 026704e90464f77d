-- The glyphs that are done, and what becomes of the rest.
use Rattle.std.proofs.Common.{◌≡◌, ◌++◌, drop, map, take}
use Rattle.shapers_position.specs.Ignorables.{in_place_of}
use Rattle.shapers_position.proofs.ot_shape_position.hiding.take_place_of.Given as goal

abbrev pub invariant-loop-glyph : goal.invariant-loop-glyph
invariant-loop-glyph l =
    take l.glyph-index l.glyphs ++ map (in_place_of l.gone) (drop l.glyph-index l.glyphs)
    ≡ map (in_place_of l.gone) l.initial.glyphs
