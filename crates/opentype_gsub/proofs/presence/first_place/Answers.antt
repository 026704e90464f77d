use Rattle.std.proofs.Common.{arith}
use Rattle.opentype_gsub.proofs.Untouched.{all_passed}
use Rattle.opentype_gsub.proofs.presence.first_place.Goals as goal

pub returns-clause-left : goal.returns-clause-left
returns-clause-left c = λ j lt. all_passed _ _ _ _ _ c.first_place.ensures.passed j (omega arith) lt
