-- How long a text gets, computed: each bound is attained.
use Rattle.std.specs.Prelude.{◌≡◌, ◌-◌, ◌==◌, ◌&&◌, ◌||◌, ℕ, nat_le, nat_lt, false, true, List, [], ◌∷◌, flat_map, length, map, Option, None, Some, pos, refl, if◌then◌else◌}
use Rattle.shapers_base.specs.Font.{Font}
use Rattle.shapers_base.specs.Plan.{new_plan}
use Rattle.shapers_base.specs.declared.font.GlyphId.{GlyphId}
use Rattle.shapers_base.specs.declared.plan.joining.hb_arabic_joining_type_t.TheVariants.{U}
use Rattle.shapers_base.specs.declared.plan.pause.Pause.{Pause}
use Rattle.shapers_base.specs.declared.plan.pause.Pause.TheVariants.{InitialReordering, ReorderKhmer}
use Rattle.shapers_buffer.specs.Buffer.{Buffer, new_buffer}
use Rattle.shapers_buffer.specs.Glyph.{default_glyph}
use Rattle.shapers_buffer.specs.declared.buffer.category.hb_unicode_general_category_t.{hb_unicode_general_category_t}
use Rattle.shapers_buffer.specs.declared.buffer.category.hb_unicode_general_category_t.TheVariants.{Lo, Mn}
use Rattle.shapers_normal.specs.declared.ot_shape_normalize.normalizing.Rounds.TheVariants.{AsCode}
use Rattle.shapers_plan.specs.declared.ot_map.lookups.Stage.{Stage}
use Rattle.shapers_plan.specs.declared.ot_map.lookups.StageLookup.{StageLookup}
use Rattle.rustybuzz_shapers.specs.declared.shaper.hb_ot_shaper_t.TheVariants.{Arabic, Hangul, Hebrew, Indic, Khmer, Myanmar, MyanmarZawgyi, Thai, Universal}
use Rattle.shapers_pipeline.specs.Lengths.{looked_up_bound, prepared_bound, preprocess_growth, shaped_bound, stage_bound, stages_bound}
use Rattle.shapers_pipeline.specs.Prepared.{Preparation, text_circled, text_prepared}
use Rattle.shapers_pipeline.specs.Stages.{Substitution, stage_looked_up}
use Rattle.shapers_buffer.specs.Properties.{general_category}
use Rattle.shapers_normal.specs.Sorting.{class_of_mark}

growths : map preprocess_growth (Arabic ∷ Hangul ∷ Hebrew ∷ Indic ∷ Khmer ∷ Myanmar ∷ MyanmarZawgyi ∷ Thai ∷ Universal
    ∷ []) ≡ 1 ∷ 3 ∷ 1 ∷ 2 ∷ 1 ∷ 1 ∷ 1 ∷ 2 ∷ 2 ∷ []
growths = refl

-- nothing but a circle is nine glyphs; one character and a circle, with a shaper and without
empty : prepared_bound None 0 ≡ 9
empty = refl

one : prepared_bound None 1 ≡ 18
one = refl

one_of_hangul : prepared_bound (Some Hangul) 1 ≡ 54
one_of_hangul = refl

-- A chain of private use: E008 comes apart in eight steps into E000 and eight marks, and so does the
-- circle. E008 is a mark, and so are those that come off.
abbrev general : ℕ → hb_unicode_general_category_t
general c = if c == 0xE008 || c == 0x301 then Mn else Lo

abbrev font : Font
font = record {
  nominal = λ c. let glyph : GlyphId = record { 0 = c } in Some glyph;
  advance = λ g. pos 0;
  applies = λ l gs z. false;
  offers = λ t. false;
}

abbrev p : Preparation
p = record {
  shaper = None;
  plan = new_plan None
      (record { features = []; stages = []; lookups = []; global = 1; chosen = None; found = false });
  masks = record { frac = 0; numr = 0; dnom = 0; rtlm = 0; vert = 0 };
  ranges = [];
  font = font;
  variants = λ c s. None;
  properties = record {
    general = general;
    class = λ c. if c == 0x301 then 230 else 0;
    ignorable = λ c. false;
    pictographic = λ c. false;
    mirroring = λ c. None;
    vertical = λ c. None;
  };
  tables = record {
    joining = λ c. U;
    general = general;
    indic = λ c. (5, 7);
    universal = λ c. 0;
    composed = λ a b. None;
    decomposed = λ c. if c == 0x25CC then Some (0xE007, 0x301)
        else if nat_lt 0xE000 c && nat_le c 0xE008 then Some (c - 1, 0x301) else None;
  };
  texts = record { class = λ c. if c == 0x301 then 230 else 0; ignorable = λ c. false };
  settings = record { rounds = AsCode; invisible_glyph = None; draws_selectors = false };
}

-- the beginning of a text: a mark alone
abbrev text : Buffer
text = record (new_buffer 99) { glyphs = record default_glyph { glyph_id = 0xE008 } ∷ []; flags = record { 0 = 2 } }

-- a circle comes in front, and each becomes nine
opened : length (text_circled p text).glyphs ≡ 2
unfolding general_category class_of_mark
opened = refl

attained : length (text_prepared p text).glyphs ≡ prepared_bound None 1
unfolding general_category class_of_mark
attained = refl

-- lookups that put each glyph twice, and a stage of two of them, from the second of the list on
abbrev doubled : StageLookup → Buffer → Buffer
doubled lookup b = record b { glyphs = flat_map (λ g. g ∷ (g ∷ [])) b.glyphs }

abbrev lookup : ℕ → StageLookup
lookup n = record { index = n; mask = 1; auto_zwnj = true; auto_zwj = true; random = false; per_syllable = false }

abbrev lookups : List StageLookup
lookups = lookup 3 ∷ lookup 4 ∷ lookup 5 ∷ []

abbrev stage : Option Pause → Stage
stage pause = record { start = 1; end = 3; pause = pause }

abbrev stages : Substitution
stages = record { plan = p.plan; font = font; substituted = doubled; list = lookups }

-- the first lookup isn't the stage's: the growth of that would be five
abbrev growth : StageLookup → ℕ
growth l = if l.index == 3 then 5 else 2

attained_by_lookups : length (stage_looked_up stages (stage None) (text_prepared p text)).glyphs
    ≡ shaped_bound None growth lookups (stage None ∷ []) 1
unfolding general_category class_of_mark
attained_by_lookups = refl

all_lookups : looked_up_bound growth lookups 1 ≡ 20
all_lookups = refl

-- and by a pause, if it may open circles
with_pause : stage_bound growth lookups 1 (stage (Some ReorderKhmer)) ≡ 8
with_pause = refl

two_stages : stages_bound growth lookups (stage None ∷ stage (Some InitialReordering) ∷ []) 3 ≡ 96
two_stages = refl
