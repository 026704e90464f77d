use Rattle.std.proofs.Common.{arith, ap, sym, ◌∙◌}
use Rattle.opentype_layout.specs.Looking.{spanned}
use Rattle.opentype_gsub.specs.Looked.{lookup_looked}
use Rattle.opentype_layout.proofs.Lookings.{looking_fit, looking_next, looking_out, looking_start}
use Rattle.opentype_gsub.proofs.trying.look_among.Goals as goal

pub loop-i-init : goal.loop-i-init
loop-i-init c = looking_start _ _ _ _ _ c.none-looked.ensures

pub loop-i-preserved : goal.loop-i-preserved
loop-i-preserved c = looking_next _ _ _ _ _ _ _ c.loop-i.invariant (omega arith)
    (sym (c.comes.ensures _) ∙ c.if-comes.false)
    (c.join-looked.ensures ∙ ap (spanned c.loop-i.looked) c.look_by.ensures)

pub returns-then-comes : goal.returns-then-comes
unfolding lookup_looked
returns-then-comes c = looking_fit _ _ _ _ _ _ _ c.loop-i.invariant (omega arith)
    (sym (c.comes.ensures _) ∙ c.if-comes.true)
    (c.join-looked.ensures ∙ ap (spanned c.loop-i.looked) c.look_by.ensures)

pub returns : goal.returns
unfolding lookup_looked
returns c = looking_out _ _ _ _ _ _ c.loop-i.invariant (omega arith)
