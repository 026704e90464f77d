use Rattle.std.proofs.Common.{◌+◌, ◌∙◌, ap, arith, length, map}
use Rattle.opentype_layout.specs.Gapped.{gapped}
use Rattle.opentype_layout.proofs.Gaps.{length-gapped, stretch_gapped_if}
use Rattle.shapers_buffer.specs.Buffer.{flags_concat, has_flag}
use Rattle.shapers_buffer.specs.GlyphFlags.{unsafe_to_concat_in, with_bits}
use Rattle.opentype_layout.proofs.glyph_text.flag_joins.Goals as goal

pub returns-clause-text : goal.returns-clause-text
returns-clause-text c =
    let asked = has_flag flags_concat c.args.flags in
    let new = c.move_gap-end.new.glyphs in
    let end = c.move_gap-end.result in
    let gap = c.move_gap-end.ensures.gap in
    let len = length-gapped new c.args.start end gap.in_order gap.within in
    let same = ap length c.move_gap-end.ensures.text in
    ap (gapped c.args.start end) c.unsafe_to_concat_in.ensures
    ∙ stretch_gapped_if asked (map (with_bits 2)) new c.args.start end c.args.count gap.in_order
    (omega (arith, len, same, c.requires.within, gap.within))
    ∙ ap (unsafe_to_concat_in asked c.args.start (c.args.start + c.args.count)) c.move_gap-end.ensures.text
