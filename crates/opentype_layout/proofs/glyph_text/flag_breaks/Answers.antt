use Rattle.std.proofs.Common.{◌+◌, ◌∙◌, ap, arith, length}
use Rattle.opentype_layout.specs.Gapped.{gapped}
use Rattle.opentype_layout.proofs.Gaps.{length-gapped, stretch_gapped}
use Rattle.shapers_buffer.specs.GlyphFlags.{flagged, unsafe_inside}
use Rattle.opentype_layout.proofs.glyph_text.flag_breaks.Goals as goal

pub returns-clause-text : goal.returns-clause-text
returns-clause-text c =
    let new = c.move_gap-end.new.glyphs in
    let end = c.move_gap-end.result in
    let gap = c.move_gap-end.ensures.gap in
    let len = length-gapped new c.args.start end gap.in_order gap.within in
    let same = ap length c.move_gap-end.ensures.text in
    ap (gapped c.args.start end) c.unsafe_to_break_in.ensures
    ∙ stretch_gapped (flagged 3) new c.args.start end c.args.count gap.in_order
    (omega (arith, len, same, c.requires.within, gap.within))
    ∙ ap (unsafe_inside c.args.start (c.args.start + c.args.count)) c.move_gap-end.ensures.text
