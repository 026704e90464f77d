-- A word of the universal shaper behind its stages, with a plan that has the feature rphf.
use Rattle.std.specs.Prelude.{[], ◌∷◌, None, Some, true, codes}
use Rattle.shapers_base.specs.Map.{Map}
use Rattle.shapers_base.specs.Plan.{new_plan}
use Rattle.shapers_base.specs.declared.plan.hb_ot_shape_plan_t.{hb_ot_shape_plan_t}
use Rattle.shapers_base.specs.declared.plan.pause.Pause.{Pause}
use Rattle.shapers_base.specs.declared.plan.pause.Pause.TheVariants.{ClearSubstitutionFlags, RecordPref, RecordRphf, ReorderUse, SetupSyllablesUse, SyllabicClearVar}
use Rattle.shapers_plan.specs.declared.ot_map.lookups.Stage.{Stage}
use Rattle.shapers_found_laws.specs.FoundUniversal.{UniversalStages}

-- the map of a font whose feature rphf has a bit of its own
abbrev pub rphf_map : Map
rphf_map = record {
  features = record { tag = record { 0 = codes "rphf" }; mask = 0x10; stage = 2 } ∷ [];
  stages = [];
  lookups = [];
  global = 0x80000000;
  chosen = None;
  found = true;
}

-- the plan of Javanese for it, before the shaper keeps anything
abbrev pub javanese_plan : hb_ot_shape_plan_t
javanese_plan = new_plan (Some (record { 0 = codes "Java" })) rphf_map

-- a stage with this pause and no lookup
abbrev pub without_lookups : Pause → Stage
without_lookups pause = record { start = 0; end = 0; pause = Some pause }

-- the stages of the shaper, with that lookup for rphf
abbrev pub universal_stages : UniversalStages
universal_stages = record {
  set_up = without_lookups SetupSyllablesUse;
  cleared = without_lookups ClearSubstitutionFlags;
  recorded = record { start = 0; end = 1; pause = Some RecordRphf };
  cleared_again = without_lookups ClearSubstitutionFlags;
  pref = without_lookups RecordPref;
  reordered = without_lookups ReorderUse;
  behind = without_lookups SyllabicClearVar ∷ [];
}
