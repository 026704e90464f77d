-- A whole text for a buffer: its settings, glyphs and positions.
use Rattle.std.specs.Prelude.{ℕ, ◌||◌, ◌&&◌, ◌==◌, List, [], length, nat_lt, take, if◌then◌else◌}
use Rattle.shapers_buffer.specs.Buffer.{Buffer}
use Rattle.shapers_buffer.specs.declared.buffer.glyph.GlyphPosition.{GlyphPosition}
use Rattle.shapers_buffer.specs.Glyphs.{Glyphs}
use Rattle.shapers_buffer.specs.declared.buffer.settings.BufferSettings.{BufferSettings}

-- the buffer with these settings; of each context it keeps the five nearest characters
abbrev pub with_settings : BufferSettings → Buffer → Buffer
with_settings s b = record b {
  direction = s.direction;
  script = s.script;
  level = s.cluster_level;
  flags = s.flags;
  before = take 5 s.pre_context.now;
  after = take 5 s.post_context.now;
  broken = s.has_broken_syllable;
  stch = s.has_stch;
  max_len = s.max_len;
}

-- the buffer with these glyphs, positions and settings; its placement list stays
abbrev pub with_text : Glyphs → List GlyphPosition → BufferSettings → Buffer → Buffer
with_text gs ps s b =
    let settled = with_settings s b in
    let text : Buffer = record settled { glyphs = gs; positions = ps } in text

-- these positions if there is one for each of the glyphs, and else none
abbrev pub positions_of_text : Glyphs → List GlyphPosition → List GlyphPosition
positions_of_text gs ps = if length ps == length gs then ps else []

-- the character of a code point; one that is no character reads as U+FFFD
abbrev pub character_of : ℕ → ℕ
character_of n = if nat_lt n 0xD800 || (nat_lt 0xDFFF n && nat_lt n 0x110000) then n else 0xFFFD
