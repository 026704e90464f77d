use Rattle.std.proofs.Common.{arith, ◌∙◌}
use Rattle.opentype_layout.proofs.Unfollowed.{one_glyph}
use Rattle.opentype_layout.proofs.rules.Rule.fit.Goals as goal

pub returns-then-self-eq1 : goal.returns-then-self-eq1
returns-then-self-eq1 c = c.fit_around.ensures ∙ one_glyph _ _ _ _ _ _ (omega arith)
