-- A text before the font's lookups, by what the lines have set.
use Rattle.std.specs.Prelude.{None, false}
use Rattle.shapers_base.specs.Font.{CharacterTables, Font}
use Rattle.shapers_buffer.specs.Settings.{character_of}
use Rattle.shapers_normal.specs.declared.ot_shape_normalize.normalizing.Rounds.TheVariants.{AsCode}
use Rattle.shapers_pipeline.specs.TextTables.{TextTables, VariantForms}
use Rattle.shapers_pipeline.specs.declared.normalizing.NormalizeSettings.{NormalizeSettings}
use Rattle.shapers_pipeline.specs.Prepared.{Preparation, preparation}
use Rattle.shapers_pipeline.specs.declared.plan.TextPlan.{TextPlan}
use Rattle.shapers_prepare.specs.CharacterProperties.{CharacterProperties}
use Rattle.shapers_prepare.specs.UnicodeValues.{unicode_properties}
use Rattle.shapers_unicode.specs.Classes.{modified_class}
use Rattle.shapers_unicode.specs.Ignorable.{default_ignorable}

-- no line gives a character a form that a selector selects
abbrev pub no_variants : VariantForms
no_variants _ _ = None

-- lines say of a character what the hooks read: so general categories are theirs, and all else is
-- Unicode's
abbrev pub properties_over : CharacterTables → CharacterProperties
properties_over tables =
    record unicode_properties { general = λ c. tables.general (character_of c) }

abbrev pub texts_by_unicode : TextTables
texts_by_unicode = record { class = modified_class; ignorable = default_ignorable }

-- what a text is prepared by: the plan, font and tables of the lines, and HarfBuzz's settings
abbrev pub preparation_by_lines : TextPlan → Font → CharacterTables → Preparation
preparation_by_lines plan font tables =
    let settings : NormalizeSettings = record {
      rounds = AsCode;
      invisible_glyph = None;
      draws_selectors = false;
    } in
    preparation plan settings font no_variants (properties_over tables) tables texts_by_unicode
