-- A text before the font's lookups: from characters to glyphs, step by step.
use Rattle.std.specs.Prelude.{ℕ, ◌==◌, not, List, [], ◌∷◌, length, map, Option}
use Rattle.shapers_base.specs.Font.{CharacterTables, Font}
use Rattle.shapers_base.specs.declared.plan.hb_ot_shape_plan_t.{hb_ot_shape_plan_t}
use Rattle.shapers_buffer.specs.Buffer.{Buffer}
use Rattle.shapers_buffer.specs.declared.buffer.level.Direction.{Direction}
use Rattle.shapers_normal.specs.Context.{Context}
use Rattle.shapers_normal.specs.Decomposition.{first_round}
use Rattle.shapers_normal.specs.Normalization.{normalized}
use Rattle.shapers_pipeline.specs.ByShaper.{shaper_context}
use Rattle.shapers_pipeline.specs.TextTables.{TextTables, VariantForms}
use Rattle.shapers_pipeline.specs.declared.normalizing.NormalizeSettings.{NormalizeSettings}
use Rattle.shapers_prepare.specs.CharacterProperties.{CharacterProperties}
use Rattle.shapers_prepare.specs.FirstCircle.{with_first_circle}
use Rattle.shapers_prepare.specs.GlyphProperties.{properties_set}
use Rattle.shapers_prepare.specs.Graphemes.{clusters_formed}
use Rattle.shapers_prepare.specs.NativeDirection.{in_native_direction}
use Rattle.shapers_prepare.specs.Rotation.{rotated_glyph}
use Rattle.shapers_prepare.specs.declared.ot_shape_prepare.rotation.CharRotation.{CharRotation}
use Rattle.rustybuzz_shapers.specs.declared.shaper.hb_ot_shaper_t.{hb_ot_shaper_t}
use Rattle.shapers_pipeline.specs.Fractions.{fractions_set}
use Rattle.shapers_pipeline.specs.Masks.{as_glyph, with_features, with_mask_alone}
use Rattle.shapers_pipeline.specs.ShaperSteps.{masks_set_for, preprocessed_for, preprocessed_len}
use Rattle.shapers_plan.specs.declared.ot_shape_plan.DriverMasks.{DriverMasks}
use Rattle.shapers_pipeline.specs.declared.plan.TextPlan.{TextPlan}
use Rattle.shapers_plan.specs.declared.ot_shape_plan.user.UserRange.{UserRange}

-- what a text is prepared by: the shaper, its plan, the masks that are set glyph by glyph, the
-- caller's features in ranges, the font with its variant forms, Unicode, and the caller's settings
pub record Preparation : Type 0 where
  pub shaper : Option hb_ot_shaper_t
  pub plan : hb_ot_shape_plan_t
  pub masks : DriverMasks
  pub ranges : List UserRange
  pub font : Font
  pub variants : VariantForms
  pub properties : CharacterProperties
  pub tables : CharacterTables
  pub texts : TextTables
  pub settings : NormalizeSettings

-- what normalization reads of them
abbrev pub context_of : Preparation → Context
context_of p =
    shaper_context p.shaper p.plan p.font p.variants p.tables p.texts p.settings.invisible_glyph
    p.settings.draws_selectors

-- what characters are rotated by, where the caller wants this direction
abbrev pub rotation_to : DriverMasks → Direction → CharRotation
rotation_to masks direction = record {
  direction = direction;
  rtlm_mask = masks.rtlm;
  has_vert = not (masks.vert == 0);
}

-- the features of the whole text, and the properties of its characters
abbrev pub text_begun : Preparation → Buffer → Buffer
text_begun p b =
    let masked = map (with_mask_alone p.plan.ot_map.global) b.glyphs in
    record b { glyphs = properties_set p.properties masked }

-- with a circle in front of a first mark
abbrev pub text_circled : Preparation → Buffer → Buffer
text_circled p b =
    let begun = text_begun p b in
    record begun { glyphs = with_first_circle p.properties p.font begun }

-- in its own direction, each grapheme in its cluster
abbrev pub text_directed : Preparation → Buffer → Buffer
text_directed p b =
    let opened = text_circled p b in
    let formed : Buffer = record opened { glyphs = clusters_formed opened.level opened.glyphs } in
    in_native_direction formed

-- and from there on: as the shaper rewrites it, with mirrored characters and vertical forms by the
-- direction that the caller wants
abbrev pub rotated_from : Preparation → Direction → Buffer → Buffer
rotated_from p direction b =
    let text = preprocessed_for p.shaper p.plan p.font b in
    let rotated = rotated_glyph p.properties p.font (rotation_to p.masks direction) in
    record text { glyphs = map rotated text.glyphs }

-- and normalized
abbrev pub normalized_from : Preparation → Direction → Buffer → Buffer
normalized_from p direction b =
    let rotated = rotated_from p direction b in
    let text = normalized (context_of p) p.settings.rounds rotated.level rotated.glyphs in
    record rotated { glyphs = text }

abbrev pub text_normalized : Preparation → Buffer → Buffer
text_normalized p b = normalized_from p b.direction (text_directed p b)

-- with the features of fractions
abbrev pub text_in_fractions : Preparation → Buffer → Buffer
text_in_fractions p b =
    let text = text_normalized p b in
    record text { glyphs = fractions_set p.masks text }

-- with the shaper's masks, and then the caller's features in their ranges; each character becomes
-- its glyph
abbrev pub text_prepared : Preparation → Buffer → Buffer
text_prepared p b =
    let masked = masks_set_for p.shaper p.plan p.tables (text_in_fractions p b) in
    let featured = map (with_features p.ranges) masked.glyphs in
    record masked { glyphs = map as_glyph featured }

-- a step that may make the text longer: how long it wants the buffer to be, and the buffer before
pub record Growth : Type 0 where
  pub wanted : ℕ
  pub before : Buffer

abbrev pub growth_of_circle : Preparation → Buffer → Growth
growth_of_circle p b =
    record { wanted = length (text_circled p b).glyphs; before = text_begun p b }

-- and those behind it, once the text is in its own direction
abbrev pub growth_of_preprocessing : Preparation → Buffer → Growth
growth_of_preprocessing p b =
    record { wanted = preprocessed_len p.shaper p.font b; before = b }

abbrev pub growth_of_normalization : Preparation → Direction → Buffer → Growth
growth_of_normalization p direction b =
    let rotated = rotated_from p direction b in
    let apart = first_round (context_of p) rotated.level rotated.glyphs in
    record { wanted = length apart; before = rotated }

abbrev pub growths_from : Preparation → Direction → Buffer → List Growth
growths_from p direction b =
    growth_of_preprocessing p b ∷ growth_of_normalization p direction b ∷ []

-- the steps that may, in their order
abbrev pub growths : Preparation → Buffer → List Growth
growths p b = growth_of_circle p b ∷ growths_from p b.direction (text_directed p b)

-- all that a preparation reads, of the plan and settings, the font, and Unicode
abbrev pub preparation : TextPlan → NormalizeSettings → Font → VariantForms → CharacterProperties →
    CharacterTables → TextTables → Preparation
preparation plan settings font variants properties tables texts = record {
  shaper = plan.shaper;
  plan = plan.plan.now;
  masks = plan.masks;
  ranges = plan.ranges.now;
  font = font;
  variants = variants;
  properties = properties;
  tables = tables;
  texts = texts;
  settings = settings;
}
