-- What a shaper's hooks make of a text before its lookups, as functions of the buffer.
use Rattle.std.specs.Prelude.{ℕ, length, map, Option, None, Some}
use Rattle.std.specs.Option.{option_map_or}
use Rattle.shapers_arabic.specs.JoinedText.{buffer_joined}
use Rattle.shapers_arabic.specs.PlanData.{breaks_of, masks_of}
use Rattle.shapers_base.specs.Font.{CharacterTables, Font}
use Rattle.shapers_base.specs.declared.plan.arabic.arabic_shape_plan_t.{arabic_shape_plan_t}
use Rattle.shapers_base.specs.declared.plan.hb_ot_shape_plan_t.{hb_ot_shape_plan_t}
use Rattle.shapers_buffer.specs.Buffer.{Buffer}
use Rattle.shapers_buffer.specs.Glyphs.{Glyphs}
use Rattle.shapers_buffer.specs.declared.buffer.tag.Script.{Script}
use Rattle.shapers_hangul.specs.Hangul.{rewritten, rewritten_by}
use Rattle.shapers_hangul.specs.Masks.{with_jamo_masks}
use Rattle.shapers_prepare.specs.JoinerFlags.{zwnj_flagged}
use Rattle.shapers_prepare.specs.Vowels.{vowels_circled}
use Rattle.shapers_syllabic.specs.Characters.{with_category, with_category_and_position}
use Rattle.shapers_text.specs.Thai.{glyphs_in_two}
use Rattle.shapers_text.specs.ThaiForms.{preprocessed_in_thai}
use Rattle.shapers_universal.specs.PlanData.{arabic_of}
use Rattle.shapers_universal.specs.UniversalMasks.{with_categories}
use Rattle.rustybuzz_shapers.specs.Hooks.{GlyphsFit, PlanFits}
use Rattle.rustybuzz_shapers.specs.declared.shaper.hb_ot_shaper_t.{hb_ot_shaper_t}
use Rattle.rustybuzz_shapers.specs.declared.shaper.hb_ot_shaper_t.TheVariants.{Arabic, Hangul, Indic, Khmer, Myanmar, Thai, Universal}

-- the text that a shaper's preprocessing makes: jamo and SARA AM, circles between vowels, and in
-- Indic texts what the choice flags
abbrev pub preprocessed_by : hb_ot_shape_plan_t → Font → Buffer → hb_ot_shaper_t → Buffer
preprocessed_by plan font b Hangul = rewritten_by plan.break_flags font b
preprocessed_by plan font b Thai = preprocessed_in_thai plan font b
preprocessed_by plan font b Indic =
    record b { glyphs = zwnj_flagged plan.break_flags (vowels_circled b) }
preprocessed_by plan font b Universal = record b { glyphs = vowels_circled b }
preprocessed_by plan font b shaper = b

abbrev pub preprocessed_for : Option hb_ot_shaper_t → hb_ot_shape_plan_t → Font → Buffer → Buffer
preprocessed_for shaper plan font b = option_map_or (preprocessed_by plan font b) shaper b

-- how long the buffer has to be for it; Thai's forms come once each SARA AM is in two
abbrev pub preprocessed_len_by : Font → Buffer → hb_ot_shaper_t → ℕ
preprocessed_len_by font b Hangul = length (rewritten font b).glyphs
preprocessed_len_by font b Thai = length (glyphs_in_two b.glyphs)
preprocessed_len_by font b Indic = length (vowels_circled b)
preprocessed_len_by font b Universal = length (vowels_circled b)
preprocessed_len_by font b shaper = length b.glyphs

abbrev pub preprocessed_len : Option hb_ot_shaper_t → Font → Buffer → ℕ
preprocessed_len shaper font b =
    option_map_or (preprocessed_len_by font b) shaper (length b.glyphs)

-- the buffer with the categories of the universal shaper and, where letters join, Arabic's forms
abbrev pub universal_masks_set :
    Option arabic_shape_plan_t → Option Script → CharacterTables → Buffer → Buffer
universal_masks_set None script tables b = with_categories tables b
universal_masks_set (Some p) script tables b =
    buffer_joined p.break_flags p.mask_array script tables.joining tables.general
    (with_categories tables b)

-- the buffer with the masks and categories that a shaper sets
abbrev pub masks_set_by : hb_ot_shape_plan_t → CharacterTables → Buffer → hb_ot_shaper_t → Buffer
masks_set_by plan tables b Arabic =
    buffer_joined (breaks_of plan.plan_data) (masks_of plan.plan_data) plan.script tables.joining
    tables.general b
masks_set_by plan tables b Hangul = with_jamo_masks plan.plan_data b
masks_set_by plan tables b Indic =
    record b { glyphs = map (with_category_and_position tables) b.glyphs }
masks_set_by plan tables b Khmer = record b { glyphs = map (with_category tables) b.glyphs }
masks_set_by plan tables b Myanmar = record b { glyphs = map (with_category tables) b.glyphs }
masks_set_by plan tables b Universal =
    universal_masks_set (arabic_of plan.plan_data) plan.script tables b
masks_set_by plan tables b shaper = b

abbrev pub masks_set_for :
    Option hb_ot_shaper_t → hb_ot_shape_plan_t → CharacterTables → Buffer → Buffer
masks_set_for shaper plan tables b = option_map_or (masks_set_by plan tables b) shaper b

-- the plan has the data that the shaper's masks are read from, and the glyphs are such as it takes
abbrev pub PlanFitsFor : Option hb_ot_shaper_t → hb_ot_shape_plan_t → Type 0
PlanFitsFor None plan = Unit {0}
PlanFitsFor (Some shaper) plan = PlanFits shaper plan

abbrev pub GlyphsFitFor : Option hb_ot_shaper_t → hb_ot_shape_plan_t → Glyphs → Type 0
GlyphsFitFor None plan gs = Unit {0}
GlyphsFitFor (Some shaper) plan gs = GlyphsFit shaper plan gs
