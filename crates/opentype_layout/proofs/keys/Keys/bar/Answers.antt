use Rattle.std.proofs.Common.{sym, ◌∙◌}
use Rattle.opentype_layout.proofs.Keyed.{head_before, head_behind, head_input}
use Rattle.opentype_layout.proofs.keys.Keys.bar.Goals as goal

pub returns-then-bars : goal.returns-then-bars
returns-then-bars c = λ t kind bytes e is. head_before kind _ bytes _ e is c.if-head-gt0.true
    (sym c.bars.ensures ∙ c.if-bars.true)

pub returns-then-head-gt1 : goal.returns-then-head-gt1
returns-then-head-gt1 c = λ t kind bytes e is. head_input kind _ bytes _ e is c.if-head-gt1.true
    (sym c.bars-then-head-gt1.ensures ∙ t)

pub returns-then-head-gt0-2 : goal.returns-then-head-gt0-2
returns-then-head-gt0-2 c = λ t kind bytes e is. head_behind kind _ bytes _ e is c.if-head-ne1.false
    c.if-head-gt0-2.true (sym c.bars-then-head-gt0-2.ensures ∙ t)
