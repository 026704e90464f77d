use Rattle.std.proofs.Common.{◌≡◌, ◌≤◌, ◌++◌, length, drop}
use Rattle.shapers_plan.specs.Stages.{lookups_from, stage_ends, stages_from, substitutions}
use Rattle.shapers_plan.proofs.ot_map.lookups.collect_stages.Given as goal

abbrev pub invariant-loop-request : goal.invariant-loop-request
invariant-loop-request g l =
    let lookups = substitutions (g.L.FontFeatures.tables l.font) l.features l.required in
    let rest = stage_ends (drop l.request-index l.requests) in
    record {
      few : l.number ≤ l.request-index;
      stages : l.found.stages.items ++ stages_from lookups l.number (length l.found.lookups.items) rest ≡ stages_from lookups 0 0 (stage_ends l.requests);
      lookups : l.found.lookups.items ++ lookups_from lookups l.number rest ≡ lookups_from lookups 0 (stage_ends l.requests);
    }
