-- What shaping a text reads of a plan.
use Rattle.shapers_base.specs.Font.{CharacterTables, Font}
use Rattle.shapers_buffer.specs.Buffer.{Buffer}
use Rattle.shapers_pipeline.specs.TextTables.{TextTables, VariantForms}
use Rattle.shapers_pipeline.specs.declared.normalizing.NormalizeSettings.{NormalizeSettings}
use Rattle.shapers_plan.specs.EnginePlan.{PlanView}
use Rattle.shapers_plan.specs.declared.ot_map.lookups.StageLookup.{StageLookup}
use Rattle.shapers_prepare.specs.CharacterProperties.{CharacterProperties}
use Rattle.shapers_pipeline.specs.Prepared.{Preparation}
use Rattle.shapers_pipeline.specs.Stages.{Substitution}

-- what its preparation reads, and what its stages of lookups do
abbrev pub preparation_by : PlanView → NormalizeSettings → Font → VariantForms →
    CharacterProperties → CharacterTables → TextTables → Preparation
preparation_by plan settings font variants properties tables texts = record {
  shaper = plan.shaper;
  plan = plan.plan;
  masks = plan.masks;
  ranges = plan.ranges;
  font = font;
  variants = variants;
  properties = properties;
  tables = tables;
  texts = texts;
  settings = settings;
}

abbrev pub substitution_by : PlanView → Font → (StageLookup → Buffer → Buffer) → Substitution
substitution_by plan font substituted = record {
  plan = plan.plan;
  font = font;
  substituted = substituted;
  list = plan.lookups;
}
