-- Buffers and their glyphs, each field: defaults, growth, copied places, the order view.
use Rattle.std.specs.Prelude.{◌≡◌, ℕ, ◌+◌, true, false, [], ◌∷◌, map, None, Some, codes, pos, refl}
use Rattle.shapers_buffer.specs.declared.buffer.glyph.TheConstants.GlyphPosition as zero
use Rattle.shapers_buffer.specs.declared.buffer.glyph.TheConstants.hb_glyph_info_t as zeroes
use Rattle.shapers_buffer.specs.declared.buffer.glyph.GlyphPosition.{GlyphPosition}
use Rattle.shapers_buffer.specs.Glyphs.{Glyph}
use Rattle.shapers_buffer.specs.LookupRecords.{operations_for, record_for}
use Rattle.shapers_buffer.specs.declared.buffer.level.BufferClusterLevel.TheVariants.{Characters, MonotoneCharacters, MonotoneGraphemes}
use Rattle.shapers_buffer.specs.declared.buffer.level.Direction.TheVariants.{LeftToRight, RightToLeft}
use Rattle.shapers_buffer.specs.Buffer.{Buffer, but_places, can_be_positions, copied_to, grown, new_buffer}
use Rattle.shapers_buffer.specs.Clusters.{merge}
use Rattle.shapers_buffer.specs.Glyph.{clusters, default_glyph, default_position, order_view, without_flags}

-- a glyph whose fields are all set
abbrev full : Glyph
full = record {
  glyph_id = 0x916;
  cluster = 5;
  mask = 0x1F;
  syllable = 0x24;
  category = 1;
  auxiliary = 3;
  glyph_props = record { 0 = 0x70 };
  lig_props = record { 0 = 2 };
  unicode_props = record { 0 = 0x09AC };
}

-- the default glyph is all zero, of category Cc, without marks
abbrev blank : Glyph
blank = record {
  glyph_id = 0;
  cluster = 0;
  mask = 0;
  syllable = 0;
  category = 0;
  auxiliary = 0;
  glyph_props = record { 0 = 0 };
  lig_props = record { 0 = 0 };
  unicode_props = record { 0 = 0 };
}

glyph_by_default : default_glyph ≡ blank
glyph_by_default = refl

DEFAULT : zeroes.DEFAULT ≡ blank
DEFAULT = refl

-- a position whose fields differ, and the default one
abbrev position_from : ℕ → GlyphPosition
position_from n = record { x_advance = pos n; y_advance = pos (n + 1); x_offset = pos (n + 2); y_offset = pos (n + 3); var = n + 4 }

abbrev nowhere : GlyphPosition
nowhere = record { x_advance = pos 0; y_advance = pos 0; x_offset = pos 0; y_offset = pos 0; var = 0 }

position_by_default : default_position ≡ nowhere
position_by_default = refl

ZERO : zero.ZERO ≡ nowhere
ZERO = refl

-- a text has 4,096 operations a glyph, and 65,536 at least: up to 16 glyphs
operations_of_none : operations_for 0 ≡ 65536
operations_of_none = refl

operations_of_16 : operations_for 16 ≡ 65536
operations_of_16 = refl

operations_of_17 : operations_for 17 ≡ 69632
operations_of_17 = refl

-- .. and never more than a number can say
operations_of_many : operations_for 0x10000000000000 ≡ 0xFFFFFFFFFFFFFFFF
operations_of_many = refl

record_of_17 : record_for 17
    ≡ record { ligature_serial = 0; random_state = 1; operations_left = 69632; is_complete = true }
record_of_17 = refl

-- a new buffer is empty, reads from left to right, and has the first level, no flag, no script, no context, no mark, and
-- nothing of lookups
new : new_buffer 7
    ≡ record {
      glyphs = [];
      positions = [];
      direction = LeftToRight;
      script = None;
      level = MonotoneGraphemes;
      flags =
          record { 0 = 0 };
      before = [];
      after = [];
      broken = false;
      stch = false;
      lookups = record { ligature_serial = 0; random_state = 1; operations_left = 65536; is_complete = true };
      max_len = 7;
      places = [];
    }
new = refl

-- a buffer of two glyphs whose fields are all set
abbrev whole : Buffer
whole = record {
  glyphs = full ∷ default_glyph ∷ [];
  positions = position_from 10 ∷ position_from 20 ∷ [];
  direction = RightToLeft;
  script = Some (record { 0 = codes "Thai" });
  level = Characters;
  flags =
      record { 0 = 0xE0 };
  before = 1 ∷ 2 ∷ [];
  after = 3 ∷ [];
  broken = true;
  stch = true;
  lookups = record { ligature_serial = 5; random_state = 9; operations_left = 7; is_complete = false };
  max_len = 50;
  places =
      1 ∷ [];
}

-- growth: default glyphs, and zero positions unless there are none
grown_by_two : grown 2 whole ≡ record whole {
  glyphs = full ∷ blank ∷ blank ∷ blank ∷ [];
  positions = position_from 10 ∷ position_from 20 ∷ nowhere ∷ nowhere ∷ [];
}
grown_by_two = refl

grown_without_positions : grown 2 (record whole { positions = [] })
    ≡ record whole { glyphs = full ∷ blank ∷ blank ∷ blank ∷ []; positions = [] }
grown_without_positions = refl

grown_by_none : grown 0 whole ≡ whole
grown_by_none = refl

grown_from_none : grown 1 (new_buffer 7) ≡ record (new_buffer 7) { glyphs = blank ∷ [] }
grown_from_none = refl

-- one place copied to another, with its position, and nothing else
copied_up : copied_to 0 1 whole
    ≡ record whole { glyphs = full ∷ full ∷ []; positions = position_from 10 ∷ position_from 10 ∷ [] }
copied_up = refl

copied_down : copied_to 1 0 whole
    ≡ record whole { glyphs = blank ∷ blank ∷ []; positions = position_from 20 ∷ position_from 20 ∷ [] }
copied_down = refl

copied_without_positions : copied_to 0 1 (record whole { positions = [] })
    ≡ record whole { glyphs = full ∷ full ∷ []; positions = [] }
copied_without_positions = refl

copied_to_itself : copied_to 1 1 whole ≡ whole
copied_to_itself = refl

-- positions: none, or one a glyph
positions_that_can_be : map (λ ps. can_be_positions ps whole) ([] ∷ (nowhere ∷ []) ∷ (nowhere ∷ nowhere ∷ [])
    ∷ (nowhere ∷ nowhere ∷ nowhere ∷ []) ∷ []) ≡ true ∷ false ∷ true ∷ false ∷ []
positions_that_can_be = refl

-- the buffer but for its placement list
without_places : but_places whole ≡ record whole { places = [] }
without_places = refl

-- the order view leaves out the cluster and the low three bits of the mask, and nothing else
seen : order_view (full ∷ default_glyph ∷ []) ≡ record full { cluster = 0; mask = 0x18 } ∷ default_glyph ∷ []
seen = refl

seen_masks : map without_flags (0 ∷ 1 ∷ 2 ∷ 4 ∷ 7 ∷ 8 ∷ 9 ∷ 15 ∷ 16 ∷ 0xFFFFFFFF ∷ []) ≡ 0 ∷ 0 ∷ 0 ∷ 0 ∷ 0 ∷ 8 ∷ 8 ∷ 8
    ∷ 16 ∷ 0xFFFFFFF8 ∷ []
seen_masks = refl

seen_clusters : clusters (full ∷ default_glyph ∷ []) ≡ 5 ∷ 0 ∷ []
seen_clusters = refl

-- a merge changes of a glyph its cluster and, with that, its glyph flags; nothing of one that keeps its cluster
merged_glyphs : merge MonotoneCharacters 0 2 (full ∷ record full { cluster = 4 } ∷ full ∷ [])
    ≡ record full { cluster = 4; mask = 0x18 } ∷ record full { cluster = 4 } ∷ full ∷ []
merged_glyphs = refl
