-- What follows from what all the lookups make of a text.
use Rattle.shapers_pipeline.proofs.StageLengths.{all_limit, all_long, all_unplaced}
use Rattle.shapers_pipeline.proofs.lookups.apply_lookups.Goals as goal

pub returns-clause-length : goal.returns-clause-length
returns-clause-length g c =
    let it = c.args.lookups.now in
    all_long (g.L.Lookups.substituted it) (g.L.Lookups.growth_of it) (g.met.L.Lookups.substituting_keeps it)
    (g.met.L.Lookups.substituting_grows it) c.args.list.now _ _ _ c.requires c.substitute_all.ensures.ok

pub returns-clause-positions : goal.returns-clause-positions
returns-clause-positions g c =
    let it = c.args.lookups.now in
    all_unplaced (g.L.Lookups.substituted it) (g.L.Lookups.growth_of it) (g.met.L.Lookups.substituting_keeps it)
    (g.met.L.Lookups.substituting_grows it) c.args.list.now _ _ _ c.requires c.substitute_all.ensures.ok

pub returns-clause-limit : goal.returns-clause-limit
returns-clause-limit g c =
    let it = c.args.lookups.now in
    all_limit (g.L.Lookups.substituted it) (g.L.Lookups.substituting_refuses it) (g.met.L.Lookups.substituting_keeps it)
    c.args.list.now _ _ _ c.requires c.substitute_all.ensures.ok c.substitute_all.ensures.err
