-- A text behind its lookups, as a whole: what each step does is seen in what comes out.
use Rattle.std.specs.Prelude.{◌≡◌, ◌==◌, ◌+◌, ◌+ℤ◌, ℕ, ℤ, pos, neg_ℤ, Bool, true, false, List, [], ◌∷◌, map, Option, None, Some, refl}
use Rattle.shapers_base.specs.Font.{Font}
use Rattle.shapers_base.specs.Plan.{new_plan}
use Rattle.shapers_base.specs.declared.font.GlyphId.{GlyphId}
use Rattle.shapers_base.specs.declared.plan.record.ZeroWidthMarks.TheVariants.{GDEF_EARLY, GDEF_LATE, NONE}
use Rattle.shapers_buffer.specs.Buffer.{Buffer, new_buffer}
use Rattle.shapers_buffer.specs.Glyph.{default_glyph, default_position}
use Rattle.shapers_buffer.specs.declared.buffer.glyph.GlyphPosition.{GlyphPosition}
use Rattle.shapers_buffer.specs.declared.buffer.level.Direction.{Direction}
use Rattle.shapers_buffer.specs.declared.buffer.level.Direction.TheVariants.{BottomToTop, LeftToRight, RightToLeft, TopToBottom}
use Rattle.shapers_plan.specs.declared.ot_map.lookups.StageLookup.{StageLookup}
use Rattle.shapers_position.specs.Metrics.{Metrics}
use Rattle.shapers_position.specs.declared.ot_shape_position.ignorables.DefaultIgnorables.TheVariants.{Hide}
use Rattle.rustybuzz_shapers.specs.declared.shaper.hb_ot_shaper_t.{hb_ot_shaper_t}
use Rattle.rustybuzz_shapers.specs.declared.shaper.hb_ot_shaper_t.TheVariants.{Khmer, Universal}
use Rattle.shapers_pipeline.specs.Positioned.{Positioning, is_early, is_late, text_shaped, zeroing_of}
use Rattle.shapers_buffer.specs.Properties.{general_category}
use Rattle.shapers_normal.specs.Sorting.{class_of_mark}

times : map is_early (NONE ∷ GDEF_EARLY ∷ GDEF_LATE ∷ []) ≡ false ∷ true ∷ false ∷ []
times = refl

late_times : map is_late (NONE ∷ GDEF_EARLY ∷ GDEF_LATE ∷ []) ≡ false ∷ false ∷ true ∷ []
late_times = refl

zeroings : map zeroing_of (None ∷ Some Khmer ∷ Some Universal ∷ []) ≡ GDEF_LATE ∷ NONE ∷ GDEF_EARLY ∷ []
zeroings = refl

-- glyphs are as wide as their numbers, and the space is glyph 3; 20 is a mark
abbrev font : Font
font = record {
  nominal = λ c. let space : GlyphId = record { 0 = 3 } in Some space;
  advance = λ glyph. pos glyph.0;
  applies = λ lookup glyphs zero. false;
  offers = λ tag. false;
}

-- downwards they are one unit higher than wide, and drawn from 5 units to their right and 8 above
abbrev metrics : Metrics
metrics = record {
  em = 1000;
  v_advance = λ glyph. neg_ℤ (pos (glyph.0 + 1));
  v_origin = λ glyph. (pos 5, pos 8);
}

-- each lookup widens the first glyph by its number, and attaching moves it up by 1
abbrev widened : ℤ → ℤ → List GlyphPosition → List GlyphPosition
widened x y [] = []
widened x y (p ∷ ps) = (record p { x_advance = p.x_advance +ℤ x; y_offset = p.y_offset +ℤ y }) ∷ ps

abbrev lookup : ℕ → StageLookup
lookup n = record { index = n; mask = 1; auto_zwnj = true; auto_zwj = true; random = false; per_syllable = false }

abbrev by : Option hb_ot_shaper_t → Bool → Positioning
by shaper applies = record {
  shaper = shaper;
  plan = new_plan None (record {
    features = [];
    stages = [];
    lookups = [];
    global = 0x80000000;
    chosen = None;
    found =
        false;
  });
  applies_gpos = applies;
  list = lookup 100 ∷ lookup 7 ∷ [];
  font = font;
  metrics = metrics;
  is_mark = λ g. g.glyph_id == 20;
  positioned = λ l b. let r : Buffer = record b { positions = widened (pos l.index) (pos 0) b.positions } in r;
  finished = λ b. let r : Buffer = record b { positions = widened (pos 0) (pos 1) b.positions } in r;
  ignorables = Hide;
  invisible = None;
}

-- a base, a mark in its cluster with a flag, and an ignorable one
abbrev text : Direction → Buffer
text direction = record (new_buffer 9) {
  glyphs =
      record default_glyph { glyph_id = 10; cluster = 0; mask = 0x10 } ∷ record default_glyph
      { glyph_id = 20; cluster = 0; mask = 0x21 }
      ∷ record default_glyph { glyph_id = 30; cluster = 1; mask = 0x40; glyph_props = record { 0 = 0 }; unicode_props = record { 0 = 0x0020 } } ∷ [];
  direction = direction;
}

abbrev spot : ℤ → ℤ → ℤ → GlyphPosition
spot advance x y = record default_position { x_advance = advance; x_offset = x; y_offset = y }

-- of each glyph its number, cluster and mask; and the positions
abbrev seen : Buffer → List (ℕ × (ℕ × ℕ))
seen b = map (λ g. (g.glyph_id, (g.cluster, g.mask))) b.glyphs

-- without GPOS the mark hangs, from left to right; the flag is spread, the direction the caller's
plain : seen (text_shaped (by None false) BottomToTop (text LeftToRight)) ≡ (10, (0, 0x11)) ∷ (20, (0, 0x21)) ∷
    (3, (1, 0x40)) ∷ []
plain = refl

plain_positions : (text_shaped (by None false) BottomToTop (text LeftToRight)).positions
    ≡ spot (pos 10) (pos 0) (pos 1) ∷ spot (pos 0) (neg_ℤ (pos 20)) (pos 0) ∷ spot (pos 0) (pos 0) (pos 0) ∷ []
unfolding general_category class_of_mark
plain_positions = refl

callers : (text_shaped (by None false) BottomToTop (text LeftToRight)).direction ≡ BottomToTop
callers = refl

-- with GPOS it doesn't, and both lookups widen the base; Khmer's marks keep their advances
applied : (text_shaped (by None true) LeftToRight (text LeftToRight)).positions
    ≡ spot (pos 117) (pos 0) (pos 1) ∷ spot (pos 0) (pos 0) (pos 0) ∷ spot (pos 0) (pos 0) (pos 0) ∷ []
unfolding general_category class_of_mark
applied = refl

khmer : (text_shaped (by (Some Khmer) true) LeftToRight (text LeftToRight)).positions
    ≡ spot (pos 117) (pos 0) (pos 1) ∷ spot (pos 20) (pos 0) (pos 0) ∷ spot (pos 0) (pos 0) (pos 0) ∷ []
unfolding general_category class_of_mark
khmer = refl

-- a mark in front is widened by GPOS behind an early time, and loses that at a late one
abbrev mark_first : Buffer
mark_first = record (new_buffer 9) { glyphs = record default_glyph { glyph_id = 20 } ∷ []; direction = LeftToRight }

early : (text_shaped (by (Some Universal) true) LeftToRight mark_first).positions ≡ spot (pos 107) (pos 0) (pos 1) ∷ []
unfolding general_category class_of_mark
early = refl

late : (text_shaped (by None true) LeftToRight mark_first).positions ≡ spot (pos 0) (pos 0) (pos 1) ∷ []
unfolding general_category class_of_mark
late = refl

-- from right to left it is turned, and nothing hangs
backward : seen (text_shaped (by None false) RightToLeft (text RightToLeft)) ≡ (3, (1, 0x40)) ∷ (20, (0, 0x21)) ∷
    (10, (0, 0x11)) ∷ []
backward = refl

backward_positions : (text_shaped (by None false) RightToLeft (text RightToLeft)).positions
    ≡ spot (pos 0) (pos 0) (pos 0) ∷ spot (pos 0) (pos 0) (pos 0) ∷ spot (pos 10) (pos 0) (pos 1) ∷ []
unfolding general_category class_of_mark
backward_positions = refl

-- a space of half an em that the font lacks
abbrev half_em : Buffer
half_em = record (new_buffer 9) {
  glyphs = record default_glyph { glyph_id = 3; unicode_props = record { 0 = 0x021D } } ∷ [];
  direction = LeftToRight;
}

spaced : (text_shaped (by None false) LeftToRight half_em).positions ≡ spot (pos 500) (pos 0) (pos 1) ∷ []
unfolding general_category class_of_mark
spaced = refl

-- downwards the mark hangs, too, and the ignorable one keeps its place beside the line
abbrev below : ℤ → ℤ → ℤ → GlyphPosition
below advance x y = record default_position { y_advance = advance; x_offset = x; y_offset = y }

downward : (text_shaped (by None false) TopToBottom (text TopToBottom)).positions
    ≡ below (neg_ℤ (pos 11)) (neg_ℤ (pos 5)) (neg_ℤ (pos 7)) ∷ below (pos 0) (neg_ℤ (pos 5)) (pos 13) ∷
    below (pos 0) (neg_ℤ (pos 5)) (pos 0) ∷ []
unfolding general_category class_of_mark
downward = refl
