-- A text of the first glyph alone has its bits.
use Rattle.std.proofs.Common.{arith}
use Rattle.opentype_font.specs.WouldApply.{nth_number}
use Rattle.opentype_font.proofs.Unbegun.{elsewhere}
use Rattle.opentype_font.proofs.would_apply.begins_elsewhere.Goals as goal

pub returns : goal.returns
returns c =
    λ yes. elsewhere c.args.gsub.now c.args.index (nth_number c.args.glyphs.now 0) _ c.present.result
    (search (arith, c.from.ensures)) (search (arith, c.if-is_empty.element_fits.fits)) c.present.ensures
    (c.is_absent.ensures yes)
