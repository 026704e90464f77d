-- A text without spaces.
use Rattle.std.proofs.Common.{◌≡◌, ◌≤◌, ◌∙◌, false, length, ap, sym, arith}
use Rattle.std.specs.List.{list_any}
use Rattle.shapers_buffer.specs.Buffer.{Buffer}
use Rattle.shapers_choice.specs.Choice.{is_horizontal}
use Rattle.shapers_position.specs.Spaces.{is_space_glyph, space_placed}
use Rattle.shapers_position.proofs.Untouched.{changed-none}
use Rattle.shapers_position.proofs.ot_shape_position.spaces.set_space_widths.Goals as goal

pub returns-then-not-has_space : goal.returns-then-not-has_space
returns-then-not-has_space g c =
    let b = c.args.buffer.now in
    let f = space_placed (g.F.hb_font_t.font c.args.font.now) (g.F.MetricsFont.metrics c.args.font.now)
    (is_horizontal b.direction) in
    let few : length b.positions ≤ length b.glyphs = omega arith in
    let none : list_any is_space_glyph b.glyphs ≡ false =
    ap (list_any is_space_glyph) (sym c.glyphs.ensures) ∙ sym c.has_space.ensures ∙ c.if-not-has_space.true in
    ap (λ ps. let r : Buffer = record b { positions = ps } in r)
    (sym (changed-none is_space_glyph f (λ g p is. cc is) b.glyphs b.positions few none))
