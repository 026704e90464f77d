-- A text whose direction rotates no character.
use Rattle.std.proofs.Common.{◌∙◌, ap, sym}
use Rattle.shapers_buffer.specs.Buffer.{Buffer}
use Rattle.shapers_prepare.proofs.Untouched.{rotated-none}
use Rattle.shapers_prepare.proofs.ot_shape_prepare.rotation.rotate_chars.Goals as goal

pub returns-then-not-rotates : goal.returns-then-not-rotates
returns-then-not-rotates g c =
    let b = c.args.buffer.now in
    ap (λ gs. let r : Buffer = record b { glyphs = gs } in r)
    (sym (rotated-none (g.U.UnicodeProperties.properties c.args.unicode.now) (g.F.hb_font_t.font c.args.font.now)
    c.args.rotation.now (sym c.rotates.ensures ∙ c.if-not-rotates.true) b.glyphs))
