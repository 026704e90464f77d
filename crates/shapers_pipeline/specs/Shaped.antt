-- A text shaped whole.
use Rattle.std.specs.Prelude.{◌≡◌, ◌⊎◌, Bool, Option, None, Some, Err}
use Rattle.shapers_base.specs.Font.{Font}
use Rattle.shapers_base.specs.declared.plan.hb_ot_shape_plan_t.{hb_ot_shape_plan_t}
use Rattle.shapers_buffer.specs.Buffer.{Buffer}
use Rattle.shapers_buffer.specs.Glyphs.{Glyph}
use Rattle.shapers_buffer.specs.declared.buffer.refusal.ShaperError.{ShaperError}
use Rattle.shapers_buffer.specs.declared.buffer.refusal.ShaperError.TheVariants.{Memory}
use Rattle.rustybuzz_shapers.specs.Checked.{AsRefused, StopsAt, postprocess_asks}
use Rattle.rustybuzz_shapers.specs.Hooks.{RefusesPostprocess}
use Rattle.rustybuzz_shapers.specs.declared.shaper.checked.CallError.{CallError}
use Rattle.rustybuzz_shapers.specs.declared.shaper.hb_ot_shaper_t.{hb_ot_shaper_t}
use Rattle.shapers_plan.specs.EnginePlan.{PlanView}
use Rattle.shapers_plan.specs.declared.ot_map.lookups.StageLookup.{StageLookup}
use Rattle.shapers_position.specs.Metrics.{Metrics}
use Rattle.shapers_pipeline.specs.Lookups.{LookupRefusals, StoppedIn}
use Rattle.shapers_pipeline.specs.Positioned.{Positioning, lookups_if, text_advanced, text_positioned}
use Rattle.shapers_pipeline.specs.Stages.{IsRefusal}
use Rattle.shapers_pipeline.specs.declared.settings.ShapeSettings.{ShapeSettings}

-- what a text is positioned by: what the plan and the settings say, in the font with its metrics,
-- and what its lookups do
abbrev pub positioning_by : PlanView → ShapeSettings → Font → Metrics →
    (Glyph → Bool) → (StageLookup → Buffer → Buffer) → (Buffer → Buffer) → Positioning
positioning_by plan settings font metrics is_mark positioned finished = record {
  shaper = plan.shaper;
  plan = plan.plan;
  applies_gpos = plan.applies_gpos;
  list = plan.positioning;
  font = font;
  metrics = metrics;
  is_mark = is_mark;
  positioned = positioned;
  finished = finished;
  ignorables = settings.ignorables;
  invisible = settings.normalize.invisible_glyph;
}

-- Positions that couldn't be made, by what lookups of GPOS may refuse, and why: there was no memory
-- for positions, and nothing has changed; or a lookup refused.
abbrev pub PositionsStopped : Positioning → (StageLookup → Buffer → LookupRefusals) →
    Buffer → Buffer → ShaperError → Type 0
PositionsStopped p refusals old new e =
    let list = lookups_if p.applies_gpos p.list in
    ((e ≡ Memory) × (new ≡ old))
    ⊎ StoppedIn p.positioned refusals list (text_advanced p old) new e

-- postprocessing that didn't run: the first of its conditions that isn't met, or its refusal
abbrev pub PostprocessStops :
    Option hb_ot_shaper_t → hb_ot_shape_plan_t → Font → Buffer → CallError → Type 0
PostprocessStops None plan font b e = ⊥
PostprocessStops (Some shaper) plan font b e =
    StopsAt {T = Unit {0}} (postprocess_asks shaper plan b) (Err e)
    × AsRefused {T = Unit {0}} (RefusesPostprocess shaper plan font b) (Err e)

-- The steps behind the lookups that stopped, from the text behind these, and why: positions, with
-- the buffer as that says; or postprocessing, and the text has positions then.
abbrev pub FinishStopped : Positioning → (StageLookup → Buffer → LookupRefusals) →
    Buffer → Buffer → CallError → Type 0
FinishStopped p refusals old new e =
    IsRefusal (PositionsStopped p refusals old new) e
    ⊎ (PostprocessStops p.shaper p.plan p.font (text_positioned p old) e
    × (new ≡ text_positioned p old))
