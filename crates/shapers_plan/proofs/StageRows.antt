-- Lookups in stages, on a small font.
use Prim.Native.String.{String}
use Rattle.std.specs.Prelude.{◌≡◌, ℕ, nat_eq, Bool, true, false, List, [], ◌∷◌, map, None, Some, codes, refl, if◌then◌else◌}
use Rattle.std.specs.Cmp.Lexicographic.{pointwise}
use Rattle.shapers_base.specs.declared.map.TableIndex.TheVariants.{GSUB, GPOS}
use Rattle.shapers_base.specs.declared.plan.pause.Pause.TheVariants.{ReorderKhmer}
use Rattle.shapers_base.specs.Planner.{bare_pause, enabled, pause_for}
use Rattle.shapers_plan.specs.FontFeatures.{FontTables}
use Rattle.shapers_plan.specs.Stages.{lookups_from, required_stage, stage_ends, stage_lookups, stages_from, substitutions}
use Rattle.shapers_plan.specs.declared.ot_map.lookups.Stage.{Stage}
use Rattle.shapers_plan.specs.declared.ot_map.lookups.StageLookup.{StageLookup}
use Rattle.shapers_plan.specs.declared.ot_map.masks.MappedFeature.{MappedFeature}
use Rattle.shapers_plan.specs.declared.ot_map.requests.FeatureInfo.{FeatureInfo}

-- ccmp has the lookups 5 and 2, locl has 5, and the script requires lookup 3
abbrev font : FontTables
font = record {
  there = λ _. true;
  chosen = λ _. None;
  found = λ _. false;
  lookups = λ _ t. if pointwise nat_eq t.0
      (codes "ccmp") then Some (5 ∷ 2 ∷ []) else Some (5 ∷ []);
  anywhere = λ _ _. None;
  required =
      λ _. Some (record { 0 = codes "hist" });
  required_lookups = λ _. 3 ∷ [];
}

abbrev feature : String → ℕ → ℕ → ℕ → MappedFeature
feature tag flags mask stage =
    record {
      tag = record { 0 = codes tag };
      flags = flags;
      mask = mask;
      one_mask = mask;
      default_value = 0;
      stage =
          stage;
    }

abbrev lookup : ℕ → ℕ → Bool → Bool → Bool → StageLookup
lookup index mask zwnj zwj per_syllable =
    record { index = index; mask = mask; auto_zwnj = zwnj; auto_zwj = zwj; random = false; per_syllable = per_syllable }

abbrev stage : ℕ → ℕ → Stage
stage start end = record { start = start; end = end; pause = None }

abbrev features : List MappedFeature
features = feature "ccmp" 77 16 0 ∷ feature "locl" 64 32 0 ∷ feature "locl" 0 64 1 ∷ []

-- by their numbers, each once: what two features have applies for either's bits, and passes over joiners where both do
joined : stage_lookups font GSUB features false (Some 0)
    ≡ lookup 2 16 false false true ∷ lookup 5 48 false false true ∷ []
joined = refl

required : stage_lookups font GSUB features true (Some 1)
    ≡ lookup 3 2147483648 true true false ∷ lookup 5 64 true true false ∷ []
required = refl

-- positioning has one stage
all_stages : map (λ l. l.mask) (stage_lookups font GPOS features false None) ≡ 16 ∷ 112 ∷ []
all_stages = refl

-- the stage of the required feature is its request's, if that turns it on
abbrev hist : ℕ → FeatureInfo
hist value = record {
  tag = record { 0 = codes "hist" };
  flags = 1;
  is_global = true;
  has_fallback = false;
  max_value =
      value;
  default_value = value;
  stage = 4;
}

stage_of_required : map (λ infos. required_stage font infos) ((hist 1 ∷ []) ∷ (hist 0 ∷ []) ∷ [] ∷ []) ≡ 4 ∷ 0 ∷ 0 ∷ []
stage_of_required = refl

-- each stage begins where the one before ends, and the last has no pause
abbrev ends : List Stage
ends = stages_from (substitutions font features 0) 0 0
    (stage_ends (enabled 0 "rvrn" ∷ pause_for ReorderKhmer ∷ bare_pause ∷ []))

contiguous : ends ≡ record (stage 0 3) { pause = Some ReorderKhmer } ∷ stage 3 4 ∷ stage 4 4 ∷ []
contiguous = refl

stage_by_stage : map (λ l. l.index) (lookups_from (substitutions font features 0) 0 (None ∷ None ∷ []))
    ≡ 2 ∷ 3 ∷ 5 ∷ 5 ∷ []
stage_by_stage = refl
