use Rattle.std.proofs.Common.{sym, ap, ◌∙◌, drop_of_length-le}
use Rattle.std.proofs.lemmas.List.{drop_more}
use Rattle.ucd_table.specs.Steps.{step_value}
use Rattle.ucd_table.proofs.StepsLemmas.{step_value-nil, step_value-here, step_value-later}
use Rattle.shapers_unicode.proofs.table.number_in_tail.Goals as goal

pub returns-then-c-end : goal.returns-then-c-end
returns-then-c-end c =
    sym
    (c.loop-end.invariant ∙ ap (λ l. step_value 0 l c.args.c) (drop_more _ _ (0, 0) c.loop-end-test.true)
    ∙ step_value-here 0 _ _ _ c.if-c-end.true)

pub loop-end-preserved : goal.loop-end-preserved
loop-end-preserved c =
    c.loop-end.invariant ∙ ap (λ l. step_value 0 l c.args.c) (drop_more _ _ (0, 0) c.loop-end-test.true)
    ∙ step_value-later 0 _ _ _ c.if-c-end.false

pub returns : goal.returns
returns c =
    sym
    (c.loop-end.invariant ∙ ap (λ l. step_value 0 l c.args.c) (drop_of_length-le _ c.loop-end-test.false)
    ∙ step_value-nil 0 c.args.c)
