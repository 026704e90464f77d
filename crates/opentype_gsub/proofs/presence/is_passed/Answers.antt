use Rattle.std.proofs.Common.{arith}
use Rattle.opentype_gsub.proofs.Untouched.{left_unmasked, left_unstarted}
use Rattle.opentype_gsub.proofs.presence.is_passed.Goals as goal

pub returns-then-glyph-lookup_use-eq0 : goal.returns-then-glyph-lookup_use-eq0
returns-then-glyph-lookup_use-eq0 c = λ _. left_unmasked _ _ _ (omega arith)

pub returns : goal.returns
returns c = λ passed. left_unstarted _ _ _ c.number.result c.may_begin.result c.may_begin.ensures c.number.ensures passed
