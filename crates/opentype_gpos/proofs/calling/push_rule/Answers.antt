use Rattle.std.proofs.Common.{refl}
use Rattle.opentype_gpos.proofs.Calls.{is_full, left_out, not_full, pushed_as}
use Rattle.opentype_gpos.proofs.calling.push_rule.Goals as goal

pub returns-then-is_full-clause-same : goal.returns-then-is_full-clause-same
returns-then-is_full-clause-same c = λ s ps left. left_out s _ _ _ (is_full _ _ c.is_full.ensures.value c.if-is_full.true)

pub returns-in-Some-clause-same : goal.returns-in-Some-clause-same
returns-in-Some-clause-same c = λ s ps left. pushed_as s _ _ _ c.in-Some.rule _ _ _ ps left c.in-Some.is
    (not_full _ _ c.is_full.ensures.value c.if-is_full.false c.is_full.ensures.fits) c.push.ensures.items refl c.flag_rule.ensures
