use Rattle.std.proofs.Common.{arith, ap, sym, ◌∙◌}
use Rattle.opentype_layout.specs.Rules.{found}
use Rattle.opentype_layout.specs.Looking.{spanned, set_looked}
use Rattle.opentype_layout.proofs.Lookings.{looking_fit, looking_next, looking_out, looking_start, some_by}
use Rattle.opentype_layout.proofs.looking.RuleSet.look.Goals as goal

pub loop-i-init : goal.loop-i-init
loop-i-init c = looking_start _ _ _ _ _ c.none-looked.ensures

pub returns-then-is_some : goal.returns-then-is_some
unfolding set_looked
returns-then-is_some c = looking_fit _ _ _ _ _ _ _ c.loop-i.invariant (omega arith)
    (some_by found c.fit.result _ _ (rw c.nth_rule-rule.ensures at c.fit.ensures) (sym c.is_some.ensures ∙ c.if-is_some.true))
    (c.join-looked.ensures ∙ ap (spanned c.loop-i.looked) (rw c.nth_rule-rule.ensures at c.look.ensures))

pub loop-i-preserved : goal.loop-i-preserved
loop-i-preserved c = looking_next _ _ _ _ _ _ _ c.loop-i.invariant (omega arith)
    (some_by found c.fit.result _ _ (rw c.nth_rule-rule.ensures at c.fit.ensures) (sym c.is_some.ensures ∙ c.if-is_some.false))
    (c.join-looked.ensures ∙ ap (spanned c.loop-i.looked) (rw c.nth_rule-rule.ensures at c.look.ensures))

pub returns : goal.returns
unfolding set_looked
returns c = looking_out _ _ _ _ _ _ c.loop-i.invariant (omega arith)
