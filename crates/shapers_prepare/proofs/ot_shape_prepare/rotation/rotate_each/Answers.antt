-- A text from right to left is mirrored, and nothing else.
use Rattle.std.proofs.Common.{◌∙◌, ap}
use Rattle.shapers_buffer.specs.Buffer.{Buffer}
use Rattle.shapers_prepare.proofs.Untouched.{mirrored-all}
use Rattle.shapers_prepare.proofs.ot_shape_prepare.rotation.rotate_each.Goals as goal

pub returns-in-RightToLeft : goal.returns-in-RightToLeft
returns-in-RightToLeft g c =
    let b = c.args.buffer.now in
    c.change_outside.ensures
    ∙ ap (λ gs. let r : Buffer = record b { glyphs = gs } in r)
    (mirrored-all (g.U.UnicodeProperties.properties c.args.unicode.now) (g.F.hb_font_t.font c.args.font.now)
    c.args.rotation c.in-RightToLeft.is b.glyphs)
