use Rattle.std.proofs.Common.{sym, ◌∙◌}
use Rattle.opentype_layout.proofs.Keyed.{chained_before, chained_behind, chained_input}
use Rattle.opentype_layout.proofs.keys.Keys.bar_chained.Goals as goal

pub returns-then-bars : goal.returns-then-bars
returns-then-bars c = λ t kind e. chained_before kind _ _ e (rw c.u16_at-before_count.ensures at c.if-before_count-gt0.true)
    (rw c.u16_at.ensures at (sym c.bars.ensures ∙ c.if-bars.true))

pub returns-then-input_count-gt1 : goal.returns-then-input_count-gt1
returns-then-input_count-gt1 c = λ t kind e. chained_input kind _ _ e
    (rw (c.u16_at-input_count.ensures, c.from.ensures, c.u16_at-before_count.ensures) at c.if-input_count-gt1.true)
    (rw (c.u16_at-then-input_count-gt1.ensures, c.from.ensures, c.u16_at-before_count.ensures)
    at (sym c.bars-then-input_count-gt1.ensures ∙ t))

pub returns-then-u16_at-gt0 : goal.returns-then-u16_at-gt0
returns-then-u16_at-gt0 c = λ t kind e. chained_behind kind _ _ e
    (rw (c.u16_at-input_count.ensures, c.from.ensures, c.u16_at-before_count.ensures) at c.if-input_count-ne1.false)
    (rw (c.u16_at-2.ensures, c.from.ensures, c.u16_at-before_count.ensures) at c.if-u16_at-gt0.true)
    (rw (c.u16_at-then-u16_at-gt0.ensures, c.from.ensures, c.u16_at-before_count.ensures)
    at (sym c.bars-then-u16_at-gt0.ensures ∙ t))
