-- What the substitution of a text reads of the values that it is handed.
use Rattle.shapers_base.specs.Font.{CharacterTables, Font}
use Rattle.shapers_pipeline.specs.TextTables.{TextTables, VariantForms}
use Rattle.shapers_prepare.specs.CharacterProperties.{CharacterProperties}
use Rattle.shapers_pipeline.specs.Prepared.{Preparation}
use Rattle.shapers_pipeline.specs.Substituted.{preparation_by}
use Rattle.shapers_pipeline.specs.declared.substitution.Substituting.{Substituting}

-- what the preparation of its characters reads of them
abbrev pub to_substitute : {F T L : Type 0} → (F → Font) → (F → VariantForms) →
    (T → CharacterProperties) → (T → CharacterTables) → (T → TextTables) →
    Substituting F T L → Preparation
to_substitute font variants properties tables texts it =
    preparation_by it.plan.now it.settings.now (font it.font.now) (variants it.font.now)
    (properties it.tables.now) (tables it.tables.now) (texts it.tables.now)
