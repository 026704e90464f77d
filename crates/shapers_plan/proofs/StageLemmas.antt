-- Each stage is a range of the list of lookups.
use Rattle.std.proofs.Common.{◌≡◌, ◌≤◌, ◌+◌, true, IsTrue, List, [], ◌∷◌, ℕ, length, map, arith}
use Rattle.std.specs.Prelude.{Option}
use Rattle.std.specs.List.{list_all}
use Rattle.std.proofs.lemmas.Grind.{common_steps}
use Rattle.shapers_base.specs.declared.plan.pause.Pause as pauses
use Rattle.std.specs.declared.ops.Range.{Range}
use Rattle.std.proofs.lemmas.List.{length-map}
use Rattle.std.proofs.lemmas.List.Folds.{list_all-map}
use Rattle.shapers_base.specs.Map.{can_be_map, can_be_stage, is_off_flags}
use Rattle.shapers_plan.specs.FontFeatures.{FontTables}
use Rattle.shapers_plan.specs.Compiling.{are_off_flags, as_feature, as_range, map_of_parts}
use Rattle.shapers_plan.specs.Ranges.{is_stage_of, stages_fit}
use Rattle.shapers_plan.specs.Stages.{lookup_number, lookups_from, stages_from}
use Rattle.shapers_plan.specs.declared.ot_map.lookups.Stage.{Stage}
use Rattle.shapers_plan.specs.declared.ot_map.masks.MappedFeature.{MappedFeature}
use Rattle.shapers_plan.specs.declared.ot_map.lookups.StageLookup.{StageLookup}

pub stages-in-range : (lookups : ℕ → List StageLookup) (number start n : ℕ) (ps : List (Option pauses.Pause)) → start + length (lookups_from lookups number ps) ≤ n → list_all (is_stage_of n) (stages_from lookups number start ps) ≡ true
stages-in-range lookups number start n [] h = grind (arith, common_steps)
stages-in-range lookups number start n (p ∷ ps) h =
    let behind = stages-in-range lookups (number + 1) (start + length (lookups number)) n ps in
    grind (arith, common_steps, behind)

pub stages-fit : (lookups : ℕ → List StageLookup) (ps : List (Option pauses.Pause)) (stages : List Stage) (list : List StageLookup) → stages ≡ stages_from lookups 0 0 ps → list ≡ lookups_from lookups 0 ps → IsTrue (stages_fit stages list)
stages-fit lookups ps stages list first second =
    let whole = stages-in-range lookups 0 0 (length (lookups_from lookups 0 ps)) ps (omega arith) in
    rw (first, second) whole

-- stages and features are a map's
pub parts-can-be-map : (tables : FontTables) (features : List MappedFeature) (stages : List Stage) (lookups : List StageLookup) → IsTrue (are_off_flags features) → IsTrue (stages_fit stages lookups) → can_be_map (map_of_parts tables features stages lookups) ≡ true
parts-can-be-map tables features stages lookups off fit =
    rw (list_all-map {X = Range ℕ} (can_be_stage (length (map lookup_number lookups))) as_range stages, list_all-map is_off_flags as_feature features, length-map lookups lookup_number)
    (grind (arith, common_steps))
