use Rattle.opentype_gsub.proofs.Marking.{IsFollowed}
use Rattle.opentype_gsub.proofs.ligating.mark_followers.Given as goal

abbrev pub invariant-loop-i : goal.invariant-loop-i
invariant-loop-i l = IsFollowed l.number l.counted l.fn.text l.fn.from l.i l.text
