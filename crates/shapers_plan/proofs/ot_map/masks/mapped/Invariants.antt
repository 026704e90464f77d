use Rattle.std.proofs.Common.{◌≡◌, ◌<◌, ◌++◌, drop}
use Rattle.shapers_plan.specs.Masks.{mapped, mapped_from}
use Rattle.shapers_plan.proofs.ot_map.masks.mapped.Given as goal

abbrev pub invariant-loop-info : goal.invariant-loop-info
invariant-loop-info g l = record {
  below : l.next_bit < 31;
  rest : l.features.items ++ mapped_from (g.L.FontFeatures.tables l.font) l.next_bit (drop l.info-index l.infos) ≡ mapped (g.L.FontFeatures.tables l.font) l.infos;
}
