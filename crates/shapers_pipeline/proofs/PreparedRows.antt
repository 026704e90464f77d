-- A text before the lookups, as a whole: what each step does is seen in what comes out.
use Rattle.std.specs.Prelude.{◌≡◌, ◌+◌, ◌==◌, ◌||◌, ℕ, suc, false, List, [], ◌∷◌, map, Option, None, Some, codes, pos, refl, if◌then◌else◌}
use Rattle.shapers_base.specs.Font.{Font}
use Rattle.shapers_base.specs.Plan.{new_plan}
use Rattle.shapers_base.specs.declared.font.GlyphId.{GlyphId}
use Rattle.shapers_base.specs.declared.plan.joining.hb_arabic_joining_type_t.TheVariants.{U}
use Rattle.shapers_buffer.specs.Buffer.{Buffer, new_buffer}
use Rattle.shapers_buffer.specs.Glyph.{default_glyph}
use Rattle.shapers_buffer.specs.declared.buffer.category.hb_unicode_general_category_t.{hb_unicode_general_category_t}
use Rattle.shapers_buffer.specs.declared.buffer.category.hb_unicode_general_category_t.TheVariants.{Lo, Mn, Nd}
use Rattle.shapers_buffer.specs.Glyphs.{Glyphs}
use Rattle.shapers_buffer.specs.declared.buffer.level.Direction.{Direction}
use Rattle.shapers_buffer.specs.declared.buffer.level.Direction.TheVariants.{LeftToRight, RightToLeft}
use Rattle.shapers_normal.specs.declared.ot_shape_normalize.normalizing.Rounds.TheVariants.{Always, AsCode}
use Rattle.shapers_prepare.specs.VowelRows.{devanagari_pairs}
use Rattle.rustybuzz_shapers.specs.declared.shaper.hb_ot_shaper_t.{hb_ot_shaper_t}
use Rattle.rustybuzz_shapers.specs.declared.shaper.hb_ot_shaper_t.TheVariants.{Indic, Myanmar}
use Rattle.shapers_pipeline.specs.Planned.{as_planned, put_back}
use Rattle.shapers_pipeline.specs.Prepared.{Preparation, text_prepared}
use Rattle.shapers_buffer.specs.Properties.{general_category}
use Rattle.shapers_normal.specs.Sorting.{class_of_mark}

-- 1, 2 are decimal numbers, 0x300, 0x102E and 0x102F are marks, all else is a letter; ( and ) are mirrored
abbrev general : ℕ → hb_unicode_general_category_t
general c = if c == 0x31 || c == 0x32 then Nd else if c == 0x300 || c == 0x102E || c == 0x102F then Mn else Lo

-- the glyph of each character is numbered by 1000 more
abbrev font : Font
font = record {
  nominal = λ c. let glyph : GlyphId = record { 0 = c + 1000 } in Some glyph;
  advance = λ g. pos 0;
  applies = λ l gs z. false;
  offers = λ t. false;
}

abbrev prepared_for : Option hb_ot_shaper_t → Preparation
prepared_for shaper = record {
  shaper = shaper;
  plan = new_plan None
      (record { features = []; stages = []; lookups = []; global = 0x80000000; chosen = None; found = false });
  masks = record { frac = 0x10; numr = 0x20; dnom = 0x40; rtlm = 0x80; vert = 0 };
  ranges = record { mask = 0xF00; value = 0x300; start = 2; end = 9 } ∷ [];
  font = font;
  variants = λ c s. None;
  properties = record {
    general = general;
    class = λ c. if c == 0x300 then 230 else 0;
    ignorable = λ c. false;
    pictographic = λ c. false;
    mirroring = λ c. if c == 0x28 then Some 0x29 else if c == 0x29 then Some 0x28 else None;
    vertical = λ c. None;
  };
  tables = record {
    joining = λ c. U;
    general = general;
    indic = λ c. (5, 7);
    universal = λ c. 0;
    composed = λ a b. if a == 0x61 then Some 0xE0 else if a == 0x1025 then Some 0x1026 else None;
    decomposed = λ c. if c == 0x1026 then Some (0x1025, 0x102E) else None;
  };
  texts = record { class = λ c. if c == 0x300 then 230 else 0; ignorable = λ c. false };
  settings = record { rounds = AsCode; invisible_glyph = None; draws_selectors = false };
}

-- characters with stale masks and flags, whose clusters rise
abbrev text_from : ℕ → List ℕ → Glyphs
text_from k [] = []
text_from k (c ∷ cs) = (record default_glyph { glyph_id = c; cluster = k; mask = 0x7 }) ∷ text_from (suc k) cs

abbrev buffer : Direction → List ℕ → List ℕ → Buffer
buffer direction script cs = record (new_buffer 9) {
  glyphs = text_from 0 cs;
  direction = direction;
  script = Some (record { 0 = script });
}

-- of each glyph its number, cluster, mask and category
abbrev seen : Option hb_ot_shaper_t → Buffer → List (ℕ × (ℕ × (ℕ × ℕ)))
seen shaper b =
    map (λ g. (g.glyph_id, (g.cluster, (g.mask, g.category)))) (text_prepared (prepared_for shaper) b).glyphs

-- 1⁄2: fractions, and the caller's feature from cluster 2 on
fraction : seen None (buffer LeftToRight (codes "Latn") (0x31 ∷ 0x2044 ∷ 0x32 ∷ []))
    ≡ (0x31 + 1000, (0, (0x80000030, 0))) ∷ (0x2044 + 1000, (1, (0x80000013, 0))) ∷ (0x32 + 1000, (2, (0x80000353, 0)))
    ∷ []
unfolding general_category class_of_mark
fraction = refl

-- a with a grave accent is one cluster, and composed
composed : seen None (buffer LeftToRight (codes "Latn") (0x61 ∷ 0x300 ∷ 0x62 ∷ []))
    ≡ (0xE0 + 1000, (0, (0x80000000, 0))) ∷ (0x62 + 1000, (2, (0x80000300, 0))) ∷ []
unfolding general_category class_of_mark
composed = refl

-- Hebrew from right to left isn't turned; the bracket is mirrored, and the letter gets the feature that mirrors
mirrored : seen None (buffer RightToLeft (codes "Hebr") (0x28 ∷ 0x5D0 ∷ []))
    ≡ (0x29 + 1000, (0, (0x80000000, 0))) ∷ (0x5D0 + 1000, (1, (0x80000080, 0))) ∷ []
unfolding general_category class_of_mark
mirrored = refl

-- from left to right it is turned, and rotated by the direction that the caller wants
turned : seen None (buffer LeftToRight (codes "Hebr") (0x28 ∷ 0x5D0 ∷ []))
    ≡ (0x5D0 + 1000, (1, (0x80000000, 0))) ∷ (0x28 + 1000, (0, (0x80000000, 0))) ∷ []
unfolding general_category class_of_mark
turned = refl

-- Devanagari: a circle between vowels, and the categories of the shaper
vowels : seen (Some Indic) (buffer LeftToRight (codes "Deva") (0x905 ∷ 0x946 ∷ []))
    ≡ (0x905 + 1000, (0, (0x80000000, 5))) ∷ (0x25CC + 1000, (1, (0x80000000, 5)))
    ∷ (0x946 + 1000, (1, (0x80000000, 5))) ∷ []
unfolding devanagari_pairs general_category class_of_mark
vowels = refl

-- An edit behind a syllable that it doesn't meet: Myanmar 1026 comes apart, and composes again only in a text with a
-- mark behind its first place. So 102F behind 1000 changes what the lookups see of the letter before; with rounds in
-- each text it doesn't.
abbrev numbers : Preparation → List ℕ → List ℕ
numbers p cs = map (λ g. g.glyph_id) (text_prepared p (buffer LeftToRight (codes "Mymr") cs)).glyphs

before_edit : numbers (prepared_for (Some Myanmar)) (0x1026 ∷ 0x1000 ∷ [])
    ≡ (0x1025 + 1000) ∷ (0x102E + 1000) ∷ (0x1000 + 1000) ∷ []
unfolding general_category class_of_mark
before_edit = refl

behind_edit : numbers (prepared_for (Some Myanmar)) (0x1026 ∷ 0x1000 ∷ 0x102F ∷ [])
    ≡ (0x1026 + 1000) ∷ (0x1000 + 1000) ∷ (0x102F + 1000) ∷ []
unfolding general_category class_of_mark
behind_edit = refl

abbrev in_each_text : Preparation
in_each_text = record (prepared_for (Some Myanmar)) {
  settings = record { rounds = Always; invisible_glyph = None; draws_selectors = false };
}

before_with_rounds : numbers in_each_text (0x1026 ∷ 0x1000 ∷ []) ≡ (0x1026 + 1000) ∷ (0x1000 + 1000) ∷ []
unfolding general_category class_of_mark
before_with_rounds = refl

behind_with_rounds : numbers in_each_text (0x1026 ∷ 0x1000 ∷ 0x102F ∷ [])
    ≡ (0x1026 + 1000) ∷ (0x1000 + 1000) ∷ (0x102F + 1000) ∷ []
unfolding general_category class_of_mark
behind_with_rounds = refl

-- The script and direction of the plan are in force, and the buffer keeps its own, none and from left to right: by a
-- plan from right to left Hebrew isn't turned, and by one from left to right it is.
abbrev by_plan : Direction → List ℕ → Buffer
by_plan direction cs =
    let created : Buffer = record (new_buffer 9) { glyphs = text_from 0 cs } in
    put_back created
    (text_prepared (prepared_for None) (as_planned (Some (record { 0 = codes "Hebr" })) direction created))

abbrev places : Buffer → List (ℕ × ℕ)
places b = map (λ g. (g.glyph_id, g.cluster)) b.glyphs

planned : places (by_plan RightToLeft (0x28 ∷ 0x5D0 ∷ [])) ≡ (0x29 + 1000, 0) ∷ (0x5D0 + 1000, 1) ∷ []
unfolding general_category class_of_mark
planned = refl

planned_turned : places (by_plan LeftToRight (0x28 ∷ 0x5D0 ∷ [])) ≡ (0x5D0 + 1000, 1) ∷ (0x28 + 1000, 0) ∷ []
unfolding general_category class_of_mark
planned_turned = refl

own_direction : (by_plan LeftToRight (0x5D0 ∷ [])).direction ≡ LeftToRight
own_direction = refl

own_script : (by_plan LeftToRight (0x5D0 ∷ [])).script ≡ None
own_script = refl
