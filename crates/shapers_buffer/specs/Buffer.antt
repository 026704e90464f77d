-- What a buffer is to its callers, and how calls change it.
use Rattle.std.specs.Prelude.{ℕ, ◌≡◌, ◌<◌, ◌≤◌, ◌==◌, bit_and, Bool, ◌||◌, List, [], ◌∷◌, ◌++◌, length, replicate, slice_get, slice_set, Option, None, false}
use Rattle.std.specs.Option.{option_map_or}
use Rattle.shapers_buffer.specs.declared.buffer.flags.BufferFlags.{BufferFlags}
use Rattle.shapers_buffer.specs.declared.buffer.glyph.GlyphPosition.{GlyphPosition}
use Rattle.shapers_buffer.specs.Glyphs.{Glyphs}
use Rattle.shapers_buffer.specs.declared.buffer.level.BufferClusterLevel.{BufferClusterLevel}
use Rattle.shapers_buffer.specs.declared.buffer.level.Direction.{Direction}
use Rattle.shapers_buffer.specs.declared.buffer.level.Direction.TheVariants.{LeftToRight}
use Rattle.shapers_buffer.specs.declared.buffer.level.BufferClusterLevel.TheVariants.{MonotoneGraphemes}
use Rattle.shapers_buffer.specs.declared.buffer.lookup_record.LookupRecord.{LookupRecord}
use Rattle.shapers_buffer.specs.declared.buffer.tag.Script.{Script}
use Rattle.shapers_buffer.specs.Glyph.{default_glyph, default_position}
use Rattle.shapers_buffer.specs.LookupRecords.{record_for}

-- a buffer: glyphs, positions (none, or one per glyph), settings, marks, what lookups left, and the
-- placement list
pub record Buffer : Type 0 where
  pub glyphs : Glyphs
  pub positions : List GlyphPosition
  pub direction : Direction
  pub script : Option Script
  pub level : BufferClusterLevel
  pub flags : BufferFlags
  pub before : List ℕ
  pub after : List ℕ
  pub broken : Bool
  pub stch : Bool
  pub lookups : LookupRecord
  pub max_len : ℕ
  pub places : List ℕ

-- what holds of every buffer, which keeps room for as many places, and for as many glyphs out of
-- their order
pub record IsBuffer (b : Buffer) (places spare : ℕ) : Type 0 where
  pub fits : length b.glyphs ≤ b.max_len
  pub paired : 0 < length b.positions → length b.positions ≡ length b.glyphs
  pub before_near : length b.before ≤ 5
  pub after_near : length b.after ≤ 5
  pub room_for_places : length b.glyphs ≤ places
  pub room_for_glyphs : length b.glyphs ≤ spare

-- the buffer but for its placement list
abbrev pub but_places : Buffer → Buffer
but_places b = record b { places = [] }

-- n more default glyphs, and n more zero positions unless there are none
abbrev pub more_positions : ℕ → List GlyphPosition → List GlyphPosition
more_positions n [] = []
more_positions n (p ∷ ps) = (p ∷ ps) ++ replicate n default_position

abbrev pub grown : ℕ → Buffer → Buffer
grown n b = record b {
  glyphs = b.glyphs ++ replicate n default_glyph;
  positions = more_positions n b.positions;
}

-- the list with what stands at one place at another place, too
abbrev pub with_copy : {X : Type 0} → ℕ → ℕ → List X → List X
with_copy from to xs = option_map_or (λ x. slice_set xs to x) (slice_get xs from) xs

-- the glyph at one place, and its position, at another place, too
abbrev pub copied_to : ℕ → ℕ → Buffer → Buffer
copied_to from to b =
    record b { glyphs = with_copy from to b.glyphs; positions = with_copy from to b.positions }

-- the buffer's flags: no dotted circles, unsafe to concatenate, safe to insert a tatweel
abbrev pub no_dotted_circle : ℕ
no_dotted_circle = 0x20

abbrev pub flags_concat : ℕ
flags_concat = 0x40

abbrev pub flags_tatweel : ℕ
flags_tatweel = 0x80

-- whether a flag is among these
abbrev pub has_flag : ℕ → BufferFlags → Bool
has_flag flag flags = bit_and flags.0 flag == flag

-- whether the buffer wants this flag
abbrev pub asks : ℕ → Buffer → Bool
asks flag b = has_flag flag b.flags

-- an empty buffer
abbrev pub new_buffer : ℕ → Buffer
new_buffer limit = record {
  glyphs = [];
  positions = [];
  direction = LeftToRight;
  script = None;
  level = MonotoneGraphemes;
  flags = record { 0 = 0 };
  before = [];
  after = [];
  broken = false;
  stch = false;
  lookups = record_for 0;
  max_len = limit;
  places = [];
}

-- whether these can be the positions of the buffer: there is none, or one per glyph
abbrev pub can_be_positions : List GlyphPosition → Buffer → Bool
can_be_positions ps b = length ps == 0 || length ps == length b.glyphs
