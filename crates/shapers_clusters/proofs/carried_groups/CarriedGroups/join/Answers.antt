-- Two groups in one cluster are as one.
use Rattle.std.proofs.Common.{◌∙◌, ◌-◌, ap, arith, get_or, subst, sym}
use Rattle.shapers_clusters.specs.CarriedGroups.{no_group}
use Rattle.shapers_buffer.specs.declared.buffer.group_room.ClusterGroup.{ClusterGroup}
use Rattle.shapers_clusters.proofs.GroupWalk.{EndJoined, joined_same, joined_still}
use Rattle.shapers_clusters.proofs.carried_groups.CarriedGroups.join.Goals as goal

pub loop-self-preserved : goal.loop-self-preserved
loop-self-preserved c =
    let it = c.loop-self.self in
    let items = it.groups.items in
    let n = c.group_count-count.ensures in
    let joined = joined_same items (omega arith)
    (omega (arith, ap (λ (g : ClusterGroup). g.cluster) (c.group-before.ensures ∙ ap (λ k. get_or items (k - 2) no_group) n), ap (λ (g : ClusterGroup). g.cluster) (c.group-last.ensures ∙ ap (λ k. get_or items (k - 1) no_group) n))) in
    let same = joined_still it c.join_last.new.self c.loop-self.glyphs
    (subst (EndJoined items) (sym c.join_last.ensures.groups) joined) c.join_last.ensures.start c.join_last.ensures.end
    c.loop-self.invariant.fits in
    record {
      same = same.same ∙ c.loop-self.invariant.same;
      fits = same.fits;
      end = c.join_last.ensures.end ∙ c.loop-self.invariant.end;
      same_length = c.loop-self.invariant.same_length;
    }
