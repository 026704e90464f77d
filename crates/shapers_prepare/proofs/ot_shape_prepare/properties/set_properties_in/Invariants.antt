-- The glyphs that are done, and what becomes of the rest.
use Rattle.std.proofs.Common.{◌≡◌, ◌++◌, take, drop}
use Rattle.shapers_prepare.specs.GlyphProperties.{properties_set}
use Rattle.shapers_prepare.proofs.PropertySteps.{set_behind}
use Rattle.shapers_prepare.proofs.ot_shape_prepare.properties.set_properties_in.Given as goal

abbrev pub invariant-loop-glyph : goal.invariant-loop-glyph
invariant-loop-glyph g l =
    let p = g.U.UnicodeProperties.properties l.unicode in
    take l.glyph-index l.glyphs ++ set_behind p l.before (drop l.glyph-index l.glyphs)
    ≡ properties_set p l.initial.glyphs
