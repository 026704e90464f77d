-- Nothing is left to be written.
use Rattle.std.proofs.Common.{◌∙◌, arith, refl}
use Rattle.shapers_clusters.proofs.GroupWalk.{none_written}
use Rattle.shapers_clusters.proofs.carried_groups.CarriedGroups.guard.Goals as goal

pub returns-then-count-eq0 : goal.returns-then-count-eq0
returns-then-count-eq0 c =
    let none = c.if-count-eq0.true in
    record {
      before = record { start = c.args.first; end = c.args.first; groups = c.write.new.self.groups; kept = c.write.new.self.kept };
      between = c.write.new.glyphs;
      same = none_written
          (record {
            start = c.args.first;
            end = c.args.first;
            groups = c.write.new.self.groups;
            kept =
                c.write.new.self.kept;
          }) c.write.new.glyphs c.write.ensures.none refl
          ∙ c.write.ensures.written ∙ (c.try_guard-count.ensures.none c.if-count-eq0.true).same;
      fits = search arith;
      at = refl;
      none = search arith;
      within = omega arith;
      some = search arith;
      stops = search arith;
    }
