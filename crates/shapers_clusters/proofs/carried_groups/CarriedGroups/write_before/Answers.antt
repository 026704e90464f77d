-- The last one stands behind the others.
use Rattle.std.proofs.Common.{◌-◌, arith, refl}
use Rattle.shapers_clusters.proofs.GroupWalk.{before_last, written_by}
use Rattle.shapers_clusters.proofs.carried_groups.CarriedGroups.write_before.Goals as goal

pub write_groups-requires : goal.write_groups-requires
write_groups-requires c =
    let fits = c.requires.fits in let b = before_last c.args.self.now.groups.items c.requires.some in search arith

pub overflow_sub-self : goal.overflow_sub-self
overflow_sub-self c = let b = before_last c.args.self.now.groups.items c.requires.some in search arith

pub returns-clause-same : goal.returns-clause-same
returns-clause-same c =
    (written_by c.args.self.now
    (record {
      start = c.args.self.now.end - c.group-last.result.len;
      end = c.args.self.now.end;
      groups = c.truncate.new.self;
      kept = c.args.self.now.kept;
    }) c.args.glyphs.now c.write_groups.new.glyphs c.group_count-before.result c.as_slice.result.now
    c.group-last.result c.requires.some c.group_count-before.ensures c.as_slice.ensures.value c.group-last.ensures
    c.truncate.ensures.items refl refl c.write_groups.ensures c.requires.fits).same

pub returns-clause-fits : goal.returns-clause-fits
returns-clause-fits c =
    (written_by c.args.self.now
    (record {
      start = c.args.self.now.end - c.group-last.result.len;
      end = c.args.self.now.end;
      groups = c.truncate.new.self;
      kept = c.args.self.now.kept;
    }) c.args.glyphs.now c.write_groups.new.glyphs c.group_count-before.result c.as_slice.result.now
    c.group-last.result c.requires.some c.group_count-before.ensures c.as_slice.ensures.value c.group-last.ensures
    c.truncate.ensures.items refl refl c.write_groups.ensures c.requires.fits).fits
