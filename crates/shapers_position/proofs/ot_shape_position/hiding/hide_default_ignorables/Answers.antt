-- A text without ignorable glyphs.
use Rattle.std.proofs.Common.{◌≡◌, ◌≤◌, ◌∙◌, false, length, ap, sym, arith}
use Rattle.std.specs.List.{list_any}
use Rattle.shapers_position.specs.Ignorables.{is_default_ignorable}
use Rattle.shapers_position.proofs.Untouched.{hidden-none}
use Rattle.shapers_position.proofs.ot_shape_position.hiding.hide_default_ignorables.Goals as goal

pub returns-then-not-has_ignorable : goal.returns-then-not-has_ignorable
returns-then-not-has_ignorable g c =
    let b = c.args.buffer.now in
    let few : length b.positions ≤ length b.glyphs = omega arith in
    let none : list_any is_default_ignorable b.glyphs ≡ false =
    ap (list_any is_default_ignorable) (sym c.glyphs.ensures) ∙ sym c.has_ignorable.ensures
    ∙ c.if-not-has_ignorable.true in
    sym (hidden-none c.args.ignorables _ b few none)
