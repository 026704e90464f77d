-- A text without ignorable glyphs.
use Rattle.std.proofs.Common.{◌≡◌, ◌≤◌, ◌∙◌, false, length, ap, sym, arith}
use Rattle.std.specs.List.{list_any}
use Rattle.shapers_buffer.specs.Buffer.{Buffer}
use Rattle.shapers_position.specs.Ignorables.{is_default_ignorable}
use Rattle.shapers_position.proofs.Untouched.{zeroed-none}
use Rattle.shapers_position.proofs.ot_shape_position.widths.zero_width_default_ignorables.Goals as goal

pub returns-else-has_ignorable : goal.returns-else-has_ignorable
returns-else-has_ignorable c =
    let b = c.args.buffer.now in
    let few : length b.positions ≤ length b.glyphs = omega arith in
    let none : list_any is_default_ignorable b.glyphs ≡ false =
    ap (list_any is_default_ignorable) (sym c.glyphs.ensures) ∙ sym c.has_ignorable.ensures
    ∙ c.if-has_ignorable.false in
    ap (λ ps. let r : Buffer = record b { positions = ps } in r)
    (sym (zeroed-none c.args.ignorables b.direction b.glyphs b.positions few none))
