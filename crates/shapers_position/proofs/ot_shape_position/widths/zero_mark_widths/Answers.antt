-- A text without marks.
use Rattle.std.proofs.Common.{◌≡◌, ◌≤◌, ◌∙◌, false, length, ap, sym, arith}
use Rattle.std.specs.List.{list_any}
use Rattle.shapers_buffer.specs.Buffer.{Buffer}
use Rattle.shapers_position.specs.Widths.{mark_zeroed}
use Rattle.shapers_position.proofs.Untouched.{changed-none}
use Rattle.shapers_position.proofs.ot_shape_position.widths.zero_mark_widths.Goals as goal

pub returns-then-not-has_mark : goal.returns-then-not-has_mark
returns-then-not-has_mark g c =
    let b = c.args.buffer.now in
    let is_mark = g.C.GlyphClasses.marks c.args.classes.now in
    let few : length b.positions ≤ length b.glyphs = omega arith in
    let none : list_any is_mark b.glyphs ≡ false =
    ap (list_any is_mark) (sym c.glyphs.ensures) ∙ sym c.has_mark.ensures ∙ c.if-not-has_mark.true in
    ap (λ ps. let r : Buffer = record b { positions = ps } in r)
    (sym (changed-none is_mark (mark_zeroed is_mark c.args.adjust_offsets) (λ g p is. cc is) b.glyphs b.positions few
    none))
