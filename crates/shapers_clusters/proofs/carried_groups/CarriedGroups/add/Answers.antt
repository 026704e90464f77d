-- The glyph is a group of its own.
use Rattle.std.proofs.Common.{◌∙◌, ◌+◌, get_or, refl}
use Rattle.shapers_buffer.specs.Glyph.{default_glyph}
use Rattle.shapers_clusters.proofs.GroupWalk.{group_added}
use Rattle.shapers_clusters.proofs.carried_groups.CarriedGroups.add.Goals as goal

pub join-requires : goal.join-requires
join-requires c = record {
  fits = (group_added c.args.self.now (record {
    start = c.args.self.now.start;
    end = c.args.self.now.end + 1;
    groups = c.push.new.self;
    kept = c.args.self.now.kept;
  }) c.args.glyphs.now (get_or c.args.glyphs.now c.args.self.now.end default_glyph) refl
      c.requires.inside refl refl c.in_ok-push.ensures.items c.requires.fits).fits;
}

pub returns-clause-same : goal.returns-clause-same
returns-clause-same c = c.join.ensures.same
    ∙ (group_added c.args.self.now (record {
      start = c.args.self.now.start;
      end = c.args.self.now.end + 1;
      groups = c.push.new.self;
      kept = c.args.self.now.kept;
    }) c.args.glyphs.now (get_or c.args.glyphs.now c.args.self.now.end default_glyph) refl
    c.requires.inside refl refl c.in_ok-push.ensures.items c.requires.fits).same
