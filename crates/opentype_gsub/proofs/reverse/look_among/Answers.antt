use Rattle.std.proofs.Common.{arith, ap, sym, ◌∙◌}
use Rattle.std.specs.Option.{is_some}
use Rattle.opentype_gsub.specs.Reversed.{all_looked_back}
use Rattle.opentype_layout.specs.Looking.{spanned}
use Rattle.opentype_layout.proofs.Lookings.{looking_fit, looking_next, looking_out, looking_start}
use Rattle.opentype_gsub.proofs.reverse.look_among.Goals as goal

pub loop-i-init : goal.loop-i-init
loop-i-init c = looking_start _ _ _ _ _ c.none-looked.ensures

pub loop-i-preserved : goal.loop-i-preserved
loop-i-preserved c = looking_next _ _ _ _ _ _ _ c.loop-i.invariant (omega arith)
    (ap is_some (sym c.nth.ensures) ∙ sym c.is_some.ensures ∙ c.if-is_some.false)
    (c.join-looked.ensures ∙ ap (spanned c.loop-i.looked) c.look.ensures)

pub returns-then-is_some : goal.returns-then-is_some
unfolding all_looked_back
returns-then-is_some c = looking_fit _ _ _ _ _ _ _ c.loop-i.invariant (omega arith)
    (ap is_some (sym c.nth.ensures) ∙ sym c.is_some.ensures ∙ c.if-is_some.true)
    (c.join-looked.ensures ∙ ap (spanned c.loop-i.looked) c.look.ensures)

pub returns : goal.returns
unfolding all_looked_back
returns c = looking_out _ _ _ _ _ _ c.loop-i.invariant (omega arith)
