-- Nothing is open before the text.
use Rattle.shapers_prepare.proofs.PropertySteps.{set_all}
use Rattle.shapers_prepare.proofs.ot_shape_prepare.properties.set_properties_in.Goals as goal

pub loop-glyph-init : goal.loop-glyph-init
loop-glyph-init g c = set_all (g.U.UnicodeProperties.properties c.args.unicode.now) c.args.glyphs.now
