use Rattle.shapers_plan.proofs.StageLemmas.{stages-fit}
use Rattle.shapers_plan.proofs.ot_map.compiling.CompiledMap.new.Goals as goal

pub make_map-requires : goal.make_map-requires
make_map-requires g c = record {
  off_flags = rw c.as_slice-5.ensures.value c.in_ok-features.ensures.off_flags;
  fit = stages-fit _ _ _ _ c.in_ok-found.ensures.stages c.in_ok-found.ensures.lookups;
}

pub returns-clause-fit : goal.returns-clause-fit
returns-clause-fit g c = stages-fit _ _ _ _ c.in_ok-found.ensures.stages c.in_ok-found.ensures.lookups
