-- There is still a position for each glyph.
use Rattle.shapers_pipeline.proofs.Placing.{all_pairs}
use Rattle.shapers_pipeline.proofs.positions.apply_positioning_if.Goals as goal

pub returns-then-applies_gpos-clause-paired : goal.returns-then-applies_gpos-clause-paired
returns-then-applies_gpos-clause-paired g c =
    let it = c.args.lookups.now in
    all_pairs (g.L.Lookups.positioned it) (g.met.L.Lookups.positioning_keeps it) c.args.list.now _ _ _ c.requires c.position_all.ensures.ok
