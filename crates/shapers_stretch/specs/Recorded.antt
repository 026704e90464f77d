-- Which glyphs are the tiles of a mark that stretches. (OpenType `stch`.)
use Rattle.std.specs.Prelude.{ℕ, ◌%◌, ◌==◌, Bool, ◌||◌, map, if◌then◌else◌}
use Rattle.std.specs.List.{list_any}
use Rattle.shapers_buffer.specs.Glyphs.{Glyph}
use Rattle.shapers_buffer.specs.Buffer.{Buffer}
use Rattle.shapers_buffer.specs.Properties.{component, is_multiplied}
use Rattle.shapers_base.specs.declared.plan.PlanData.{PlanData}
use Rattle.shapers_base.specs.declared.plan.PlanData.TheVariants.{Arabic}
use Rattle.shapers_base.specs.declared.plan.arabic.StretchStart.{StretchStart}
use Rattle.shapers_base.specs.declared.plan.arabic.StretchStart.TheVariants.{AsCode}
use Rattle.shapers_arabic.specs.declared.ot_shaper_arabic.arabic_action_t.TheConstants.{STRETCHING_FIXED, STRETCHING_REPEATING}
use Rattle.std.specs.Prelude.{false}

-- the tile that a multiplied glyph is: repeating if its component is odd, else fixed
abbrev pub tile_action : ℕ → ℕ
tile_action component = if component % 2 == 1 then STRETCHING_REPEATING else STRETCHING_FIXED

-- a multiplied glyph with the action of its tile; any other as it is
abbrev pub recorded : Glyph → Glyph
recorded g =
    if is_multiplied g.glyph_props then record g { auxiliary = tile_action (component g.lig_props) }
    else g

-- the buffer with its tiles recorded, and with the mark "has stch" if there is one
abbrev pub with_tiles : Buffer → Buffer
with_tiles b = record b {
  glyphs = map recorded b.glyphs;
  stch = list_any (λ g. is_multiplied g.glyph_props) b.glyphs || b.stch;
}

-- whether the font stretches marks, and where they begin, as Arabic keeps them in the plan
abbrev pub has_stch : PlanData → Bool
has_stch (Arabic p) = p.has_stch
has_stch _ = false

abbrev pub start_of : PlanData → StretchStart
start_of (Arabic p) = p.stretch_start
start_of _ = AsCode

-- the pause that records tiles: nothing unless the font stretches marks
abbrev pub tiles_recorded : PlanData → Buffer → Buffer
tiles_recorded kept b = if has_stch kept then with_tiles b else b
