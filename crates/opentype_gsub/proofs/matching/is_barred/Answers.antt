use Rattle.std.proofs.Common.{◌∙◌, sym}
use Rattle.opentype_gsub.proofs.LigatureKeys.{barred_ligature}
use Rattle.opentype_gsub.proofs.matching.is_barred.Goals as goal

pub returns-then-count-gt1 : goal.returns-then-count-gt1
returns-then-count-gt1 c = λ e gdef sight gs at none. barred_ligature gdef sight gs at c.args.set.now c.args.offset c.args.key.now none
    (rw c.u16_at-count.ensures at c.if-count-gt1.true) (rw c.u16_at-second.ensures at (sym c.bars.ensures ∙ e))
