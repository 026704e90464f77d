-- Ignorable glyphs that are drawn by another one, or go, computed: who takes in the text of what goes.
use Rattle.std.specs.Prelude.{◌≡◌, ℕ, ◌+◌, pos, true, false, List, [], ◌∷◌, map, None, Some, refl}
use Rattle.shapers_buffer.specs.declared.buffer.glyph.GlyphPosition.{GlyphPosition}
use Rattle.shapers_buffer.specs.Glyphs.{Glyph, Glyphs}
use Rattle.shapers_buffer.specs.declared.buffer.level.BufferClusterLevel.TheVariants.{MonotoneGraphemes, MonotoneCharacters, Characters}
use Rattle.shapers_buffer.specs.Buffer.{Buffer, new_buffer}
use Rattle.shapers_buffer.specs.Glyph.{clusters, default_glyph, default_position}
use Rattle.shapers_position.specs.declared.ot_shape_position.ignorables.DefaultIgnorables.TheVariants.{Hide, Preserve, Remove}
use Rattle.shapers_position.specs.Ignorables.{covering, drawn_by, is_of_cluster, ignorables_hidden, in_place_of, positions_kept, removed}

-- a letter, an ignorable glyph, and one that a lookup put in, of a cluster and with a mask
abbrev letter : ℕ → ℕ → Glyph
letter c m = record default_glyph { glyph_id = 7; cluster = c; mask = m }

abbrev joiner : ℕ → ℕ → Glyph
joiner c m = record default_glyph { glyph_id = 8; cluster = c; mask = m; unicode_props = record { 0 = 0x20 } }

abbrev seen : ℕ → ℕ → Glyph
seen c m =
    record (joiner c m) {
      glyph_id = 9;
      glyph_props = record { 0 = 0x10 };
    }

-- clusters and masks of what stays
abbrev masks : Glyphs → List ℕ
masks gs = map (λ g. g.mask) gs

abbrev stay : Glyphs → List ℕ
stay gs = clusters (removed MonotoneGraphemes gs)

-- the next glyph is of its cluster: nothing changes
survives : removed MonotoneGraphemes (letter 5 1 ∷ joiner 1 2 ∷ letter 1 4 ∷ []) ≡ letter 5 1 ∷ letter 1 4 ∷ []
survives = refl

-- the next glyph is of another one: the one before takes the lower cluster, and its flags, and keeps its features
falls : removed MonotoneGraphemes (letter 3 0x1D ∷ joiner 2 0x2A ∷ letter 1 4 ∷ []) ≡ letter 2 0x1A ∷ letter 1 4 ∷ []
falls = refl

-- with all directly before it that share its cluster, and no others
run_falls : stay (letter 3 0 ∷ letter 4 0 ∷ letter 3 0 ∷ letter 3 0 ∷ joiner 2 0 ∷ letter 1 0 ∷ []) ≡ 3 ∷ 4 ∷ 2 ∷ 2 ∷
    1 ∷ []
run_falls = refl

-- not to a higher cluster, and not to its own
rises : removed MonotoneGraphemes (letter 1 0x11 ∷ joiner 2 2 ∷ letter 3 4 ∷ []) ≡ letter 1 0x11 ∷ letter 3 4 ∷ []
rises = refl

same : removed MonotoneGraphemes (letter 2 0x11 ∷ joiner 2 2 ∷ letter 3 4 ∷ []) ≡ letter 2 0x11 ∷ letter 3 4 ∷ []
same = refl

-- at the end of the text
ends : map stay ((letter 3 0 ∷ joiner 2 0 ∷ []) ∷ (letter 1 0 ∷ joiner 2 0 ∷ []) ∷ (letter 2 0 ∷ joiner 2 0 ∷ []) ∷
    []) ≡ (2 ∷ []) ∷ (1 ∷ []) ∷ (2 ∷ []) ∷ []
ends = refl

-- several that go: the last of each cluster counts, one after another
several : removed MonotoneGraphemes (letter 5 0 ∷ joiner 4 1 ∷ joiner 4 2 ∷ joiner 3 4 ∷ letter 2 0 ∷ [])
    ≡ letter 3 4 ∷ letter 2 0 ∷ []
several = refl

some_survive : removed MonotoneGraphemes (letter 5 0 ∷ joiner 4 1 ∷ joiner 3 2 ∷ letter 3 0 ∷ []) ≡ letter 4 1 ∷
    letter 3 0 ∷ []
some_survive = refl

-- what falls into the cluster before it falls on with it
falls_on : stay (letter 4 0 ∷ letter 5 0 ∷ joiner 4 0 ∷ joiner 3 0 ∷ letter 1 0 ∷ []) ≡ 3 ∷ 3 ∷ 1 ∷ []
falls_on = refl

-- those that open the text merge with the first that stays, which loses its flags if its cluster falls
opens : removed MonotoneGraphemes (joiner 0 7 ∷ letter 1 0x1F ∷ letter 2 1 ∷ []) ≡ letter 0 0x18 ∷ letter 2 1 ∷ []
opens = refl

opens_above : removed MonotoneGraphemes (joiner 2 7 ∷ letter 1 0x1F ∷ []) ≡ letter 1 0x1F ∷ []
opens_above = refl

open_several : stay (joiner 2 0 ∷ joiner 0 0 ∷ joiner 1 0 ∷ letter 3 0 ∷ letter 3 0 ∷ letter 4 0 ∷ []) ≡ 0 ∷ 0 ∷ 4 ∷ []
open_several = refl

-- at each level; where clusters don't merge only what stands behind another glyph leaves its cluster
levels : map (λ level. clusters (removed level (joiner 0 0 ∷ letter 4 0 ∷ joiner 3 0 ∷ []))) (MonotoneGraphemes ∷
    MonotoneCharacters ∷ Characters ∷ []) ≡ (0 ∷ []) ∷ (0 ∷ []) ∷ (3 ∷ []) ∷ []
levels = refl

-- all go, none goes, no text; one that a lookup put in stays
all_go : removed MonotoneGraphemes (joiner 0 0 ∷ joiner 1 0 ∷ []) ≡ []
all_go = refl

none_goes : removed MonotoneGraphemes (letter 1 7 ∷ seen 0 7 ∷ []) ≡ letter 1 7 ∷ seen 0 7 ∷ []
none_goes = refl

no_text : removed MonotoneGraphemes [] ≡ []
no_text = refl

-- the ends of the range of clusters
far : stay (letter 4294967295 0 ∷ joiner 4294967294 0 ∷ letter 0 0 ∷ []) ≡ 4294967294 ∷ 0 ∷ []
far = refl

-- before an empty list nothing is covered, and nothing goes on
nothing_before : covering (joiner 0 0) [] ≡ []
nothing_before = refl

next : is_of_cluster 1 (letter 1 0 ∷ []) ∷ is_of_cluster 1 (letter 2 0 ∷ letter 1 0 ∷ []) ∷ is_of_cluster 1 [] ∷ [] ≡ true ∷ false ∷
    false ∷ []
next = refl

-- all other fields stay
abbrev full : Glyph
full = record {
  glyph_id = 0x916;
  mask = 0x8000001F;
  cluster = 5;
  glyph_props = record { 0 = 0x6E };
  lig_props = record { 0 = 0xE2 };
  syllable = 0x24;
  unicode_props = record { 0 = 0x09AC };
  category = 1;
  auxiliary = 3;
}

in_place : in_place_of (letter 2 0x44) full ≡ record {
  glyph_id = 0x916;
  mask = 0x8000001C;
  cluster = 2;
  glyph_props = record { 0 = 0x6E };
  lig_props = record { 0 = 0xE2 };
  syllable = 0x24;
  unicode_props = record { 0 = 0x09AC };
  category = 1;
  auxiliary = 3;
}
in_place = refl

drawn : drawn_by (record { 0 = 3 }) full ≡ record {
  glyph_id = 3;
  mask = 0x8000001F;
  cluster = 5;
  glyph_props = record { 0 = 0x6E };
  lig_props = record { 0 = 0xE2 };
  syllable = 0x24;
  unicode_props = record { 0 = 0x09AC };
  category = 1;
  auxiliary = 3;
}
drawn = refl

not_drawn : map (drawn_by (record { 0 = 3 })) (letter 1 2 ∷ seen 1 2 ∷ []) ≡ letter 1 2 ∷ seen 1 2 ∷ []
not_drawn = refl

-- positions go with their glyphs, and with what lookups keep there
abbrev moved : ℕ → GlyphPosition
moved x = record default_position { x_advance = pos x; var = x + 40 }

abbrev text : Glyphs
text = joiner 0 0 ∷ letter 1 0 ∷ joiner 1 0 ∷ seen 2 0 ∷ []

positions : positions_kept text (moved 1 ∷ moved 2 ∷ moved 3 ∷ moved 4 ∷ []) ≡ moved 2 ∷ moved 4 ∷ []
positions = refl

no_positions : positions_kept text [] ≡ []
no_positions = refl

-- the buffer: drawn by the invisible glyph, or gone; drawn as they are; gone
abbrev buffer : Buffer
buffer = record (new_buffer 9) { glyphs = text; positions = moved 1 ∷ moved 2 ∷ moved 3 ∷ moved 4 ∷ [] }

abbrev gone : Buffer
gone = record buffer { glyphs = letter 0 0 ∷ seen 2 0 ∷ []; positions = moved 2 ∷ moved 4 ∷ [] }

abbrev blank : ℕ → Glyph
blank c = record (joiner c 0) { glyph_id = 3 }

shown : ignorables_hidden Hide (Some (record { 0 = 3 })) buffer
    ≡ record buffer { glyphs = blank 0 ∷ letter 1 0 ∷ blank 1 ∷ seen 2 0 ∷ [] }
shown = refl

others : ignorables_hidden Hide None buffer ∷ ignorables_hidden Preserve (Some (record { 0 = 3 })) buffer ∷
    ignorables_hidden Preserve None buffer ∷ ignorables_hidden Remove (Some (record { 0 = 3 })) buffer ∷
    ignorables_hidden Remove None buffer ∷ [] ≡ gone ∷ buffer ∷ buffer ∷ gone ∷ gone ∷ []
others = refl
