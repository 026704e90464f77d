-- What is shown, and what was there.
use Rattle.std.proofs.Common.{◌∙◌, ◌+◌, ◌++◌, ◌-◌, ap, arith, drop, refl, sym, take}
use Rattle.shapers_clusters.specs.CarriedGroups.{first_group_cluster, put_before}
use Rattle.shapers_buffer.specs.declared.buffer.group_room.ClusterGroup.{ClusterGroup}
use Rattle.shapers_clusters.proofs.GroupWalk.{are_shown, first_get, many_lens}
use Rattle.shapers_clusters.proofs.carried_groups.CarriedGroups.represent_groups.Goals as goal

pub overflow_sub-place : goal.overflow_sub-place
overflow_sub-place = search (arith, many_lens)

pub show_from-requires-clause-room : goal.show_from-requires-clause-room
show_from-requires-clause-room = search (arith, many_lens)

pub returns-clause-shown : goal.returns-clause-shown
returns-clause-shown c =
    let it = c.args.self.now in
    let gs = c.args.glyphs.now in
    let place = it.end - c.args.count in
    are_shown c.args.count it _ gs c.put_before.new.glyphs _ _ c.requires.some
    c.requires.within (ap (λ k. k - c.args.count) c.group_count.ensures) refl refl
    (c.in_ok-extend_from_slice.ensures.items
    ∙ ap (λ l. l ++ take (it.end - c.saturating_sub.result) (drop c.saturating_sub.result gs)) c.truncate.ensures.items
    ∙ ap (λ k. take (it.end - k) (drop k gs)) c.saturating_sub.ensures)
    (c.put_before.ensures ∙ ap (λ k. put_before place (k + 1) c.show_from.new.glyphs)
    (ap (λ (g : ClusterGroup). g.cluster) c.group.ensures ∙ sym (first_get it.groups.items))
    ∙ ap (λ l. put_before place (first_group_cluster it.groups.items + 1) l) c.show_from.ensures) c.requires.fits
