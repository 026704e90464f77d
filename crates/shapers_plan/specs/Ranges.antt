-- Stages as ranges of a list of lookups.
use Rattle.std.specs.Prelude.{ℕ, Bool, ◌&&◌, List, length, nat_le}
use Rattle.std.specs.List.{list_all}
use Rattle.shapers_plan.specs.declared.ot_map.lookups.Stage.{Stage}
use Rattle.shapers_plan.specs.declared.ot_map.lookups.StageLookup.{StageLookup}

-- whether a stage is a range of a list of n lookups
abbrev pub is_stage_of : ℕ → Stage → Bool
is_stage_of n s = nat_le s.start s.end && nat_le s.end n

-- whether each stage is a range of these lookups
abbrev pub stages_fit : List Stage → List StageLookup → Bool
stages_fit stages lookups = list_all (is_stage_of (length lookups)) stages
