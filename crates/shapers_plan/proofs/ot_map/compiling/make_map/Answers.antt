use Rattle.std.proofs.Common.{arith}
use Rattle.std.proofs.lemmas.Grind.{common_steps}
use Rattle.shapers_plan.proofs.StageLemmas.{parts-can-be-map}
use Rattle.shapers_plan.proofs.ot_map.compiling.make_map.Goals as goal

pub unreachable-requires : goal.unreachable-requires
unreachable-requires g c =
    let found = c.args.found.now in
    let fits = parts-can-be-map (g.L.FontFeatures.tables c.args.font.now) c.args.features.now found.stages.items found.lookups.items c.requires.off_flags c.requires.fit in
    grind (arith, common_steps, fits)
