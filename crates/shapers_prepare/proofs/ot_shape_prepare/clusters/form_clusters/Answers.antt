-- A text in which each glyph is a grapheme of its own.
use Rattle.std.proofs.Common.{◌≡◌, ◌∙◌, false, ap, sym}
use Rattle.std.specs.List.{list_any}
use Rattle.shapers_buffer.specs.Buffer.{Buffer}
use Rattle.shapers_buffer.specs.Glyphs.{Glyph}
use Rattle.shapers_buffer.specs.Properties.{is_continuation}
use Rattle.shapers_prepare.proofs.Untouched.{formed-none}
use Rattle.shapers_prepare.proofs.ot_shape_prepare.clusters.form_clusters.Goals as goal

pub returns-then-not-has_continuation : goal.returns-then-not-has_continuation
returns-then-not-has_continuation c =
    let b = c.args.buffer.now in
    let none : list_any (λ (g : Glyph). is_continuation g.unicode_props) b.glyphs ≡ false =
    ap (list_any (λ (g : Glyph). is_continuation g.unicode_props)) (sym c.glyphs.ensures)
    ∙ sym c.has_continuation.ensures ∙ c.if-not-has_continuation.true in
    ap (λ gs. let r : Buffer = record b { glyphs = gs } in r) (sym (formed-none b.level b.glyphs none))
