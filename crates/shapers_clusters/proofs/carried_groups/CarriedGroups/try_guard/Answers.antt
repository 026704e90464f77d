-- What is shown stands behind what isn't flooded.
use Rattle.std.proofs.Common.{arith}
use Rattle.shapers_clusters.proofs.carried_groups.CarriedGroups.try_guard.Goals as goal

pub returns-in-Ok-clause-some : goal.returns-in-Ok-clause-some
returns-in-Ok-clause-some c some =
    let before = c.add_groups_to.new.self in
    record {
      before = before;
      between = c.add_groups_to.new.glyphs;
      same = c.add_groups_to.ensures.same;
      fits = c.add_groups_to.ensures.fits;
      at = c.add_groups_to.ensures.end (grind arith);
      none = search arith;
      within = c.count_from-count.ensures.within;
      some = λ _. c.in-Ok.ensures.shown;
      stops = search arith;
    }
