use Rattle.std.proofs.Common.{arith}
use Rattle.opentype_gsub.proofs.AsLong.{behind_as_long, inside_as_long, merged_as_long}
use Rattle.opentype_gsub.proofs.ligating.join.Goals as goal

pub at-requires : goal.at-requires
at-requires c = omega (arith, merged_as_long _ _ _ _ _ (rw c.last_of-last.ensures c.requires.behind) c.merge_up_to.ensures)

pub number-number-requires : goal.number-number-requires
number-number-requires c = omega (arith, merged_as_long _ _ _ _ _ (rw c.last_of-last.ensures c.requires.behind) c.merge_up_to.ensures)

pub mark_inside-counted-requires-clause-behind : goal.mark_inside-counted-requires-clause-behind
mark_inside-counted-requires-clause-behind c = omega (arith, merged_as_long _ _ _ _ _ (rw c.last_of-last.ensures c.requires.behind) c.merge_up_to.ensures)

pub mark_inside-counted-requires-clause-here : goal.mark_inside-counted-requires-clause-here
mark_inside-counted-requires-clause-here c = omega (arith, merged_as_long _ _ _ _ _ (rw c.last_of-last.ensures c.requires.behind) c.merge_up_to.ensures)

pub place_behind-behind-requires : goal.place_behind-behind-requires
place_behind-behind-requires c = omega (
  arith,
  merged_as_long _ _ _ _ _ (rw c.last_of-last.ensures c.requires.behind) c.merge_up_to.ensures,
  inside_as_long _ _ _ _ _ _ _ _ c.mark_inside-counted.ensures,
)

pub set-requires : goal.set-requires
set-requires c = omega (
  arith,
  merged_as_long _ _ _ _ _ (rw c.last_of-last.ensures c.requires.behind) c.merge_up_to.ensures,
  inside_as_long _ _ _ _ _ _ _ _ c.mark_inside-counted.ensures,
  behind_as_long _ _ _ _ _ _ c.mark_behind.ensures,
)
