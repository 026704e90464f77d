-- What normalization reads of a shaper with its plan, a font and tables.
use Rattle.std.specs.Prelude.{ℕ, nat_lt, Bool, ◌&&◌, ◌||◌, Option, None, if◌then◌else◌}
use Rattle.std.specs.Option.{option_map_or}
use Rattle.rustybuzz_shapers.specs.Records.{normalizes}
use Rattle.rustybuzz_shapers.specs.declared.shaper.hb_ot_shaper_t.{hb_ot_shaper_t}
use Rattle.rustybuzz_shapers.specs.declared.shaper.hb_ot_shaper_t.TheVariants.{Arabic, Hebrew, Indic, Khmer, Universal}
use Rattle.shapers_arabic.specs.Marks.{marks_merged, marks_reordered}
use Rattle.shapers_base.specs.Font.{CharacterTables, Font}
use Rattle.shapers_base.specs.declared.font.GlyphId.{GlyphId}
use Rattle.shapers_base.specs.declared.plan.hb_ot_shape_plan_t.{hb_ot_shape_plan_t}
use Rattle.shapers_base.specs.declared.plan.record.NormalizationMode.{NormalizationMode}
use Rattle.shapers_base.specs.declared.plan.record.NormalizationMode.TheVariants.{AUTO}
use Rattle.shapers_buffer.specs.declared.buffer.category.hb_unicode_general_category_t.TheVariants.{Cn}
use Rattle.shapers_buffer.specs.Glyphs.{Glyphs}
use Rattle.shapers_buffer.specs.declared.buffer.level.BufferClusterLevel.{BufferClusterLevel}
use Rattle.shapers_clusters.specs.Steps.{after_step}
use Rattle.shapers_indic.specs.Characters.{composed_in_indic, decomposed_in_indic}
use Rattle.shapers_khmer.specs.Khmer.{decomposed_in_khmer}
use Rattle.shapers_syllabic.specs.Characters.{composed_behind}
use Rattle.shapers_text.specs.Hebrew.{composed_in_hebrew, hebrew_mark_step}
use Rattle.shapers_normal.specs.Context.{Context}
use Rattle.shapers_pipeline.specs.TextTables.{TextTables, VariantForms}

-- whether a number is that of a character: at most 10FFFF, and no surrogate
abbrev pub is_character : ℕ → Bool
is_character c = nat_lt c 0xD800 || (nat_lt 0xDFFF c && nat_lt c 0x110000)

-- the form that a shaper prefers; a text that no shaper takes is normalized as most are
abbrev pub preferred_mode : Option hb_ot_shaper_t → NormalizationMode
preferred_mode shaper = option_map_or normalizes shaper AUTO

-- what a character decomposes to: as the shaper has it, and else as the tables do
abbrev pub decomposed_by : CharacterTables → ℕ → hb_ot_shaper_t → Option (ℕ × ℕ)
decomposed_by tables c Indic = decomposed_in_indic tables c
decomposed_by tables c Khmer = decomposed_in_khmer tables c
decomposed_by tables c shaper = tables.decomposed c

abbrev pub decomposed_for : Option hb_ot_shaper_t → CharacterTables → ℕ → Option (ℕ × ℕ)
decomposed_for shaper tables c = option_map_or (decomposed_by tables c) shaper (tables.decomposed c)

-- what two characters compose to, likewise
abbrev pub composed_by : hb_ot_shape_plan_t → CharacterTables → ℕ → ℕ → hb_ot_shaper_t → Option ℕ
composed_by plan tables a b Hebrew =
    composed_in_hebrew (tables.composed a b) plan.has_gpos_mark a b
composed_by plan tables a b Indic = composed_in_indic tables a b
composed_by plan tables a b Khmer = composed_behind tables a b
composed_by plan tables a b Universal = composed_behind tables a b
composed_by plan tables a b shaper = tables.composed a b

abbrev pub composed_for : Option hb_ot_shaper_t → hb_ot_shape_plan_t → CharacterTables → ℕ → ℕ →
    Option ℕ
composed_for shaper plan tables a b =
    option_map_or (composed_by plan tables a b) shaper (tables.composed a b)

-- the marks from one place to another as the shaper orders them
abbrev pub ordered_by : BufferClusterLevel → ℕ → ℕ → Glyphs → hb_ot_shaper_t →
    Glyphs
ordered_by level s e gs Arabic = marks_reordered s e (marks_merged level s e gs)
ordered_by level s e gs Hebrew = after_step level (hebrew_mark_step s e gs) gs
ordered_by level s e gs shaper = gs

abbrev pub ordered_for : Option hb_ot_shaper_t → BufferClusterLevel → ℕ → ℕ →
    Glyphs → Glyphs
ordered_for shaper level s e gs = option_map_or (ordered_by level s e gs) shaper gs

-- All of them for normalization. A number that is no character's stays as it is: it is of no
-- category, has class 0, and isn't ignorable.
abbrev pub shaper_context : Option hb_ot_shaper_t → hb_ot_shape_plan_t → Font →
    VariantForms → CharacterTables → TextTables → Option GlyphId → Bool → Context
shaper_context shaper plan font variants tables texts invisible draws_selectors = record {
  mode = preferred_mode shaper;
  decomposed = λ c. if is_character c then decomposed_for shaper tables c else None;
  composed = λ a b.
      if is_character a && is_character b then composed_for shaper plan tables a b else None;
  reordered = ordered_for shaper;
  nominal = font.nominal;
  variant = variants;
  general = λ c. if is_character c then tables.general c else Cn;
  class = λ c. if is_character c then texts.class c else 0;
  ignorable = λ c. is_character c && texts.ignorable c;
  invisible = invisible;
  draws_selectors = draws_selectors;
}
