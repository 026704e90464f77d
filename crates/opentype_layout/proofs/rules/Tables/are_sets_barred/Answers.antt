use Rattle.std.proofs.Common.{sym, ◌∙◌}
use Rattle.opentype_layout.specs.Rules.{kind}
use Rattle.opentype_layout.proofs.Keyed.{none_chained, sets_before, sets_behind, sets_input}
use Rattle.opentype_layout.proofs.rules.Tables.are_sets_barred.Goals as goal

pub returns-then-input_count-gt1 : goal.returns-then-input_count-gt1
returns-then-input_count-gt1 c = λ t. none_chained _ _ _ (kind c.args.self.now) _ _ _ c.if-not-self.false (sets_input _ _ _ (kind c.args.self.now) _ _ _ c.key_behind.result c.if-self-ne3.false
    (rw (c.u16_at-input_count.ensures, c.from.ensures, c.u16_at-before_count.ensures) at c.if-input_count-gt1.true)
    (rw c.after.ensures at c.key_behind.ensures)
    (rw (c.set_at.ensures, c.from.ensures, c.u16_at-before_count.ensures) at (sym c.bars_set.ensures ∙ t)))

pub returns-then-bars_set : goal.returns-then-bars_set
returns-then-bars_set c = λ t. none_chained _ _ _ (kind c.args.self.now) _ _ _ c.if-not-self.false (sets_before _ _ _ (kind c.args.self.now) _ _ _ c.key_before.result c.if-self-ne3.false
    (rw c.u16_at-before_count.ensures at c.if-before_count-gt0.true)
    c.key_before.ensures
    (rw c.set_at-then-before_count-gt0.ensures at (sym c.bars_set-then-before_count-gt0.ensures ∙ c.if-bars_set.true)))

pub returns-then-u16_at-gt0 : goal.returns-then-u16_at-gt0
returns-then-u16_at-gt0 c = λ t. none_chained _ _ _ (kind c.args.self.now) _ _ _ c.if-not-self.false (sets_behind _ _ _ (kind c.args.self.now) _ _ _ c.key_behind-then-u16_at-gt0.result c.if-self-ne3.false
    (rw (c.u16_at-input_count.ensures, c.from.ensures, c.u16_at-before_count.ensures) at c.if-input_count-ne1.false)
    (rw (c.u16_at.ensures, c.from.ensures, c.u16_at-before_count.ensures) at c.if-u16_at-gt0.true)
    (rw c.end_of.ensures at c.key_behind-then-u16_at-gt0.ensures)
    (rw (c.set_at-then-u16_at-gt0.ensures, c.from.ensures, c.u16_at-before_count.ensures)
    at (sym c.bars_set-then-u16_at-gt0.ensures ∙ t)))
