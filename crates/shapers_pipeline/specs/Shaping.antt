-- What shaping a text reads of the values that it is handed.
use Rattle.std.specs.Prelude.{Bool}
use Rattle.shapers_base.specs.Font.{CharacterTables, Font}
use Rattle.shapers_buffer.specs.Buffer.{Buffer}
use Rattle.shapers_buffer.specs.Glyphs.{Glyph}
use Rattle.shapers_pipeline.specs.TextTables.{TextTables, VariantForms}
use Rattle.shapers_plan.specs.declared.ot_map.lookups.StageLookup.{StageLookup}
use Rattle.shapers_position.specs.Metrics.{Metrics}
use Rattle.shapers_prepare.specs.CharacterProperties.{CharacterProperties}
use Rattle.shapers_pipeline.specs.Positioned.{Positioning}
use Rattle.shapers_pipeline.specs.Prepared.{Preparation}
use Rattle.shapers_pipeline.specs.Shaped.{positioning_by}
use Rattle.shapers_pipeline.specs.Substituted.{preparation_by}
use Rattle.shapers_pipeline.specs.declared.shaping.Shaping.{Shaping}

-- what the preparation of its characters reads of them
abbrev pub to_shape : {F T L : Type 0} → (F → Font) → (F → VariantForms) →
    (T → CharacterProperties) → (T → CharacterTables) → (T → TextTables) →
    Shaping F T L → Preparation
to_shape font variants properties tables texts it =
    preparation_by it.plan.now it.settings.now.normalize (font it.font.now) (variants it.font.now)
    (properties it.tables.now) (tables it.tables.now) (texts it.tables.now)

-- what the positions of its glyphs, and the steps behind them, read of them
abbrev pub to_position : {F T L : Type 0} → (F → Font) → (F → Metrics) →
    (L → Glyph → Bool) → (L → StageLookup → Buffer → Buffer) → (L → Buffer → Buffer) →
    Shaping F T L → Positioning
to_position font metrics marks positioned finished it =
    positioning_by it.plan.now it.settings.now (font it.font.now) (metrics it.font.now)
    (marks it.lookups.now) (positioned it.lookups.now) (finished it.lookups.now)
