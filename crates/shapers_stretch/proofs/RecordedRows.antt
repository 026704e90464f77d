-- Which glyphs become tiles, computed.
use Rattle.std.specs.Prelude.{◌≡◌, ℕ, true, false, [], ◌∷◌, map, refl}
use Rattle.shapers_buffer.specs.Glyphs.{Glyph, Glyphs}
use Rattle.shapers_buffer.specs.Buffer.{Buffer, new_buffer}
use Rattle.shapers_base.specs.declared.plan.PlanData.{PlanData}
use Rattle.shapers_base.specs.declared.plan.PlanData.TheVariants.{Arabic}
use Rattle.shapers_base.specs.declared.plan.arabic.StretchStart.TheVariants.{AsCode, Centred}
use Rattle.shapers_base.specs.declared.plan.breaks.BreakFlags.TheVariants as breaks
use Rattle.shapers_stretch.specs.Recorded.{recorded, start_of, tiles_recorded}

-- a glyph with all fields set, with these words of its lookups
abbrev set : ℕ → ℕ → ℕ → Glyph
set props lig action = record {
  glyph_id = 5;
  cluster = 6;
  mask = 7;
  glyph_props = record { 0 = props };
  lig_props = record { 0 = lig };
  syllable = 8;
  unicode_props = record { 0 = 0x0BE7 };
  category = 9;
  auxiliary = action;
}

-- odd and even components, the ends among them; without the bit nothing changes, and no other bit counts
rows : map recorded (set 0x40 3 1 ∷ set 0x40 2 1 ∷ set 0x40 0 1 ∷ set 0x40 1 1 ∷ set 0x40 15 1 ∷ set 0xFFFF 14 1
    ∷ set 0 3 1 ∷ set 0xFFBF 3 1 ∷ []) ≡ set 0x40 3 9 ∷ set 0x40 2 8 ∷ set 0x40 0 8 ∷ set 0x40 1 9 ∷ set 0x40 15 9
    ∷ set 0xFFFF 14 8 ∷ set 0 3 1 ∷ set 0xFFBF 3 1 ∷ []
rows = refl

-- the number of the ligature doesn't count; a ligature itself has component 0
ligatures : map recorded (set 0x40 0xE3 1 ∷ set 0x40 0x23 1 ∷ set 0x40 0x22 1 ∷ set 0x40 0x13 1 ∷ set 0x40 0xFF 1 ∷ [])
    ≡ set 0x40 0xE3 9 ∷ set 0x40 0x23 9 ∷ set 0x40 0x22 8 ∷ set 0x40 0x13 8 ∷ set 0x40 0xFF 8 ∷ []
ligatures = refl

abbrev with_stch : PlanData
with_stch = Arabic (record { mask_array = []; has_stch = true; stretch_start = Centred; break_flags = breaks.AsCode })

abbrev without_stch : PlanData
without_stch =
    Arabic (record { mask_array = []; has_stch = false; stretch_start = AsCode; break_flags = breaks.AsCode })

abbrev text : Glyphs → Buffer
text gs = record (new_buffer 9) { glyphs = gs }

-- the mark "has stch" comes with a tile, and stays where there is none
marked : tiles_recorded with_stch (text (set 0 0 1 ∷ set 0x40 3 1 ∷ []))
    ≡ record (text (set 0 0 1 ∷ set 0x40 3 9 ∷ [])) { stch = true }
marked = refl

unmarked : tiles_recorded with_stch (text (set 0 0 1 ∷ set 0 3 1 ∷ [])) ≡ text (set 0 0 1 ∷ set 0 3 1 ∷ [])
unmarked = refl

marked_before : tiles_recorded with_stch (record (text []) { stch = true }) ≡ record (text []) { stch = true }
marked_before = refl

not_asked : tiles_recorded without_stch (text (set 0x40 3 1 ∷ [])) ≡ text (set 0x40 3 1 ∷ [])
not_asked = refl

not_arabic : tiles_recorded PlanData.None (text (set 0x40 3 1 ∷ [])) ≡ text (set 0x40 3 1 ∷ [])
not_arabic = refl

starts : start_of with_stch ≡ Centred
starts = refl
