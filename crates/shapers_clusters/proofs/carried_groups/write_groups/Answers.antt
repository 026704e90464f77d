-- One more is written.
use Rattle.std.proofs.Common.{arith}
use Rattle.std.proofs.Common.{◌≤◌, ◌+◌, drop, get_or, length, subst}
use Rattle.shapers_clusters.specs.CarriedGroups.{len_of, no_group}
use Rattle.shapers_clusters.proofs.GroupWalk.{next_at, written_next}
use Rattle.shapers_clusters.proofs.carried_groups.write_groups.Goals as goal

pub loop-group-preserved : goal.loop-group-preserved
loop-group-preserved c =
    let l = c.loop-group in
    let groups = c.args.groups.now in
    let g = get_or groups l.group-index no_group in
    let inside = subst (λ xs. l.place +
    len_of xs ≤ length l.glyphs) (next_at groups l.group-index no_group c.loop-group-test.true) l.invariant.within in
    let next = written_next g (drop (l.group-index + 1) groups) l.place l.glyphs c.put_into.new.glyphs inside
    c.put_into.ensures in
    search (arith, next_at groups l.group-index no_group c.loop-group-test.true)
