use Rattle.std.proofs.Common.{arith}
use Rattle.std.proofs.lemmas.Grind.{common_steps}
use Rattle.shapers_plan.proofs.MaskLemmas.{mapped-off-flags}
use Rattle.shapers_plan.proofs.ot_map.masks.mapped.Goals as goal

pub returns-clause-off_flags : goal.returns-clause-off_flags
returns-clause-off_flags g c =
    let whole = mapped-off-flags (g.L.FontFeatures.tables c.args.font.now) 4 c.args.infos.now (omega arith) in
    grind (arith, common_steps, whole)
