-- The groups are read, and what was kept is back.
use Rattle.std.proofs.lemmas.List.{take-append-drop}
use Rattle.std.proofs.Common.{◌++◌, ◌-◌, ◌≡◌, arith, drop, length-drop, take}
use Rattle.shapers_clusters.proofs.GroupWalk.{len_of-read, len_of-append, least_front, least_both, least_behind, least-read, many_lens}
use Rattle.shapers_clusters.proofs.carried_groups.CarriedGroups.take_back.Goals as goal

pub overflow_sub-place : goal.overflow_sub-place
overflow_sub-place = search (arith, many_lens)

pub read_from-requires : goal.read_from-requires
read_from-requires = search (arith, many_lens)

pub join-requires : goal.join-requires
join-requires c =
    let it = c.args.self.now in
    let gs = c.args.glyphs.now in
    let fits = c.requires.fits.fits (omega arith) in
    let place = it.end - c.args.count in
    let lens = many_lens it.groups.items _ fits.least in
    record {
      fits =
          let items = it.groups.items in
          let whole : (take (c.group_count.result - c.args.count) items) ++ (drop (c.group_count.result - c.args.count)
          items) ≡ items = take-append-drop (c.group_count.result - c.args.count) items in
          search (
            arith,
            len_of-append,
            len_of-read,
            length-drop,
            take-append-drop,
            least_both,
            least_front,
            least-read,
            least_behind,
          );
    }

pub returns-clause-settled : goal.returns-clause-settled
returns-clause-settled = search arith
