use Rattle.opentype_gsub.proofs.Untouched.{all_passed}
use Rattle.opentype_gsub.proofs.presence.next_place.Goals as goal

pub returns-clause-left : goal.returns-clause-left
returns-clause-left c = all_passed _ _ _ _ _ c.next_place.ensures.passed
