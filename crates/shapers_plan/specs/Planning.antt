-- The plan of a text (HarfBuzz, hb-ot-shape.cc).
use Prim.Native.String.{String}
use Rattle.std.specs.Prelude.{ℕ, ◌==◌, ◌&&◌, Bool, true, false, not, List, Option, None, Some, codes, find, option_map, if◌then◌else◌}
use Rattle.std.specs.List.{filter_map}
use Rattle.std.specs.Option.{option_map_or}
use Rattle.shapers_buffer.specs.declared.buffer.level.Direction.{Direction}
use Rattle.shapers_buffer.specs.declared.buffer.tag.Script.{Script}
use Rattle.shapers_buffer.specs.declared.buffer.tag.hb_tag_t.{hb_tag_t}
use Rattle.shapers_base.specs.Map.{Map, mask_of, same_tag}
use Rattle.shapers_base.specs.Plan.{new_plan}
use Rattle.shapers_base.specs.declared.map.TableIndex.TheVariants.{GPOS, GSUB}
use Rattle.shapers_base.specs.declared.plan.arabic.StretchStart.TheVariants as starts
use Rattle.shapers_base.specs.declared.plan.breaks.BreakFlags.TheVariants as breaks
use Rattle.shapers_base.specs.declared.plan.hb_ot_shape_plan_t.{hb_ot_shape_plan_t}
use Rattle.shapers_base.specs.declared.plan.indic.BaseSearch.TheVariants.{WithoutMedials}
use Rattle.shapers_base.specs.declared.plan.indic.ZeroContext.TheVariants.{OldSpec}
use Rattle.shapers_base.specs.declared.plan.planner.Request.{Request}
use Rattle.rustybuzz_shapers.specs.Hooks.{data_created, with_created}
use Rattle.rustybuzz_shapers.specs.Records.{wants_gpos_script}
use Rattle.rustybuzz_shapers.specs.declared.shaper.hb_ot_shaper_t.{hb_ot_shaper_t}
use Rattle.shapers_plan.specs.Collecting.{is_for_all, requests_for, text_shaper}
use Rattle.shapers_plan.specs.Compiling.{features_for, lookups_for, map_for, positioning_for, stages_for}
use Rattle.shapers_plan.specs.FontFeatures.{FontTables}
use Rattle.shapers_plan.specs.Masks.{value_in}
use Rattle.shapers_plan.specs.EnginePlan.{PlanView}
use Rattle.shapers_plan.specs.declared.ot_map.masks.MappedFeature.{MappedFeature}
use Rattle.shapers_plan.specs.declared.ot_shape_plan.DriverMasks.{DriverMasks}
use Rattle.shapers_plan.specs.declared.ot_shape_plan.choices.ShapeChoices.{ShapeChoices}
use Rattle.shapers_plan.specs.declared.ot_shape_plan.user.UserFeature.{UserFeature}
use Rattle.shapers_plan.specs.declared.ot_shape_plan.user.UserRange.{UserRange}

-- the mask of the value 1 of a feature, 0 where the map lacks it
abbrev pub one_mask_of : String → Map → ℕ
one_mask_of tag map = let named : hb_tag_t = record { 0 = codes tag } in mask_of named map

abbrev pub driver_masks : Map → DriverMasks
driver_masks map = record {
  frac = one_mask_of "frac" map;
  numr = one_mask_of "numr" map;
  dnom = one_mask_of "dnom" map;
  rtlm = one_mask_of "rtlm" map;
  vert = one_mask_of "vert" map;
}

-- the choices of a caller who makes none: marks stretch, and breaks are flagged, as HarfBuzz's code
-- has it, and Indic looks for the base and asks the font as rustybuzz does
abbrev pub default_choices : ShapeChoices
default_choices = record {
  stretch_start = starts.AsCode;
  break_flags = breaks.AsCode;
  base_search = WithoutMedials;
  zero_context = OldSpec;
}

-- the plan that the shaper's hooks read, with the caller's choices and the data that the shaper
-- keeps; where the map has the feature mark, GPOS places marks
abbrev pub hooks_plan : Option hb_ot_shaper_t → Option Script → ShapeChoices → Map →
    hb_ot_shape_plan_t
hooks_plan shaper script choices map =
    let bare = new_plan script map in
    let plan : hb_ot_shape_plan_t = record bare {
      has_gpos_mark = not (one_mask_of "mark" map == 0);
      stretch_start = choices.stretch_start;
      break_flags = choices.break_flags;
      base_search = choices.base_search;
      zero_context = choices.zero_context;
    } in
    option_map_or (λ s. with_created (data_created s plan) plan) shaper plan

-- whether a shaper that wants this script in GPOS, or any, takes the one that was chosen there
abbrev pub suits : Option hb_tag_t → Option hb_tag_t → Bool
suits None chosen = true
suits (Some wanted) None = false
suits (Some wanted) (Some tag) = same_tag tag wanted

-- whether GPOS is applied: the font has it, and the shaper takes the script chosen there
abbrev pub takes_gpos : FontTables → Option hb_ot_shaper_t → Bool
takes_gpos tables shaper =
    tables.there GPOS
    && option_map_or (λ s. suits (wants_gpos_script s) (tables.chosen GPOS)) shaper true

-- the bits of a mapped feature in a range
abbrev pub range_with : UserFeature → MappedFeature → UserRange
range_with user feature = record {
  mask = feature.mask;
  value = value_in feature user.value;
  start = user.start;
  end = user.end;
}

-- what a feature of the user's does to a range, if it doesn't hold for the whole text and is mapped
abbrev pub range_of_user : List MappedFeature → UserFeature → Option UserRange
range_of_user features user = if is_for_all user then None
    else option_map (range_with user) (find (λ feature. same_tag feature.tag user.tag) features)

-- the plan that a list of requests makes
abbrev pub plan_of_requests : FontTables → Option hb_ot_shaper_t → Option Script → Direction →
    List UserFeature → ShapeChoices → List Request → PlanView
plan_of_requests tables shaper script direction users choices rs = record {
  shaper = shaper;
  plan = hooks_plan shaper script choices (map_for tables rs);
  direction = direction;
  stages = stages_for tables rs;
  lookups = lookups_for tables rs;
  applies_gpos = takes_gpos tables shaper;
  positioning = positioning_for tables rs;
  masks = driver_masks (map_for tables rs);
  ranges = filter_map (range_of_user (features_for tables rs)) users;
}

-- the plan of a text of this script and direction, with the user's features and choices, in a font
-- that has these features, and rclt or not
abbrev pub text_plan : FontTables → Bool → Option Script → Direction → List UserFeature →
    ShapeChoices → PlanView
text_plan tables has_rclt script direction users choices =
    let shaper = text_shaper script direction (tables.chosen GSUB) in
    plan_of_requests tables shaper script direction users choices
    (requests_for shaper script direction has_rclt users)
