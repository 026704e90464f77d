use Rattle.opentype_layout.specs.Keys.{bars}
use Rattle.opentype_layout.proofs.rules.before_key.Goals as goal

pub returns-then-not-is_asked : goal.returns-then-not-is_asked
unfolding bars
returns-then-not-is_asked c = λ numbers b. absurd (cc)
