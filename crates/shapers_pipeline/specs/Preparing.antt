-- What a text's preparation reads of the values that it is handed.
use Rattle.shapers_base.specs.Font.{CharacterTables, Font}
use Rattle.shapers_pipeline.specs.TextTables.{TextTables, VariantForms}
use Rattle.shapers_prepare.specs.CharacterProperties.{CharacterProperties}
use Rattle.shapers_pipeline.specs.Prepared.{Preparation, preparation}
use Rattle.shapers_pipeline.specs.declared.prepare.Preparing.{Preparing}

-- all of them, where the functions tell of a font its glyphs and variant forms, and of tables the
-- properties of characters, what shapers look up, and what normalization does
abbrev pub prepared_by : {F T : Type 0} → (F → Font) → (F → VariantForms) →
    (T → CharacterProperties) → (T → CharacterTables) → (T → TextTables) → Preparing F T →
    Preparation
prepared_by font variants properties tables texts it =
    preparation it.plan.now it.settings.now (font it.font.now) (variants it.font.now)
    (properties it.tables.now) (tables it.tables.now) (texts it.tables.now)
