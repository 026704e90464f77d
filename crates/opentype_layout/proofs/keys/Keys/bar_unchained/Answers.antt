use Rattle.std.proofs.Common.{sym, ◌∙◌}
use Rattle.opentype_layout.proofs.Keyed.{unchained_input}
use Rattle.opentype_layout.proofs.keys.Keys.bar_unchained.Goals as goal

pub returns-then-u16_at-gt1 : goal.returns-then-u16_at-gt1
returns-then-u16_at-gt1 c = λ t kind e. unchained_input kind _ _ e (rw c.u16_at.ensures at c.if-u16_at-gt1.true)
    (rw c.u16_at-then-u16_at-gt1.ensures at (sym c.bars.ensures ∙ t))
