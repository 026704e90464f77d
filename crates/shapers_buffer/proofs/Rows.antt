-- The definitions, computed on small texts.
use Rattle.std.specs.Prelude.{◌≡◌, ℕ, true, false, List, [], ◌∷◌, map, length, refl}
use Rattle.shapers_buffer.specs.Glyphs.{Glyph, Glyphs}
use Rattle.shapers_buffer.specs.declared.buffer.level.BufferClusterLevel.TheVariants.{MonotoneGraphemes, MonotoneCharacters, Characters}
use Rattle.shapers_buffer.specs.declared.buffer.syllables.Span.{Span}
use Rattle.shapers_buffer.specs.Glyph.{default_glyph, clusters}
use Rattle.shapers_buffer.specs.Clusters.{low, high, merge}
use Rattle.shapers_buffer.specs.GlyphFlags.{unsafe_inside, FlagCall, UnsafeToBreak, UnsafeToConcat, SafeToInsertTatweel, flags_called}
use Rattle.shapers_buffer.specs.Syllables.{span_bytes, spans_cover, with_bytes, syllables}

-- a text of these clusters, where every mask is 15
abbrev text : List ℕ → Glyphs
text cs = map (λ c. let g : Glyph = record default_glyph { cluster = c; mask = 15 } in g) cs

abbrev masks : Glyphs → List ℕ
masks gs = map (λ g. g.mask) gs

abbrev bytes : Glyphs → List ℕ
bytes gs = map (λ g. g.syllable) gs

abbrev span : ℕ → ℕ → Span
span n k = record { len = n; kind = k }

-- rising: the glyphs of the last cluster follow it
rises : clusters (merge MonotoneGraphemes 1 3 (text (0 ∷ 1 ∷ 2 ∷ 2 ∷ 3 ∷ []))) ≡ 0 ∷ 1 ∷ 1 ∷ 1 ∷ 3 ∷ []
rises = refl

-- a glyph that changes its cluster loses its flags, and no other
loses : masks (merge MonotoneGraphemes 1 3 (text (0 ∷ 1 ∷ 2 ∷ 2 ∷ 3 ∷ []))) ≡ 15 ∷ 15 ∷ 8 ∷ 8 ∷ 15 ∷ []
loses = refl

-- falling: the glyphs of the first cluster before it follow
falls : clusters (merge MonotoneCharacters 2 4 (text (4 ∷ 3 ∷ 3 ∷ 2 ∷ 2 ∷ []))) ≡ 4 ∷ 2 ∷ 2 ∷ 2 ∷ 2 ∷ []
falls = refl

-- neither: the least is inside
dips : clusters (merge MonotoneCharacters 1 4 (text (5 ∷ 5 ∷ 1 ∷ 7 ∷ 7 ∷ 5 ∷ []))) ≡ 1 ∷ 1 ∷ 1 ∷ 1 ∷ 1 ∷ 5 ∷ []
dips = refl

-- at every level: the two monotone ones merge alike, Characters doesn't
at_characters : clusters (merge MonotoneCharacters 1 3 (text (0 ∷ 1 ∷ 2 ∷ 2 ∷ 3 ∷ []))) ≡ 0 ∷ 1 ∷ 1 ∷ 1 ∷ 3 ∷ []
at_characters = refl

at_graphemes : clusters (merge MonotoneGraphemes 2 4 (text (4 ∷ 3 ∷ 3 ∷ 2 ∷ 2 ∷ []))) ≡ 4 ∷ 2 ∷ 2 ∷ 2 ∷ 2 ∷ []
at_graphemes = refl

stays : merge Characters 1 3 (text (0 ∷ 1 ∷ 2 ∷ 2 ∷ 3 ∷ [])) ≡ text (0 ∷ 1 ∷ 2 ∷ 2 ∷ 3 ∷ [])
stays = refl

-- both ends move over repeated clusters, as far as these go, and no further: a cluster that comes
-- again behind another one stays
reach : low 2 4 (text (7 ∷ 5 ∷ 5 ∷ 3 ∷ 3 ∷ 7 ∷ [])) ≡ 1
reach = refl

reach_up : high 2 4 (text (7 ∷ 5 ∷ 5 ∷ 3 ∷ 3 ∷ 7 ∷ [])) ≡ 5
reach_up = refl

reaches : clusters (merge MonotoneGraphemes 2 4 (text (7 ∷ 5 ∷ 5 ∷ 3 ∷ 3 ∷ 7 ∷ []))) ≡ 7 ∷ 3 ∷ 3 ∷ 3 ∷ 3 ∷ 7 ∷ []
reaches = refl

reached_masks : masks (merge MonotoneGraphemes 2 4 (text (7 ∷ 5 ∷ 5 ∷ 3 ∷ 3 ∷ 7 ∷ []))) ≡ 15 ∷ 8 ∷ 8 ∷ 15 ∷ 15 ∷ 15 ∷ []
reached_masks = refl

comes_again : clusters (merge MonotoneGraphemes 2 4 (text (5 ∷ 4 ∷ 5 ∷ 3 ∷ 6 ∷ 3 ∷ []))) ≡ 5 ∷ 4 ∷ 3 ∷ 3 ∷ 6 ∷ 3 ∷ []
comes_again = refl

-- the whole text; one cluster alone, where every flag stays
whole_text : clusters (merge MonotoneGraphemes 0 3 (text (2 ∷ 1 ∷ 0 ∷ []))) ≡ 0 ∷ 0 ∷ 0 ∷ []
whole_text = refl

one_cluster : merge MonotoneGraphemes 1 3 (text (2 ∷ 2 ∷ 2 ∷ 2 ∷ [])) ≡ text (2 ∷ 2 ∷ 2 ∷ 2 ∷ [])
one_cluster = refl

-- a glyph whose fields are all set keeps them, but for its cluster and the low three bits of its mask
abbrev full : ℕ → ℕ → Glyph
full c m = record {
  glyph_id = 1;
  cluster = c;
  mask = m;
  syllable = 2;
  category = 3;
  auxiliary = 4;
  glyph_props = record { 0 = 0x70 };
  lig_props = record { 0 = 6 };
  unicode_props = record { 0 = 0x05AC };
}

all_fields : merge MonotoneGraphemes 0 2 (full 4 255 ∷ full 3 255 ∷ full 3 7 ∷ full 9 7 ∷ []) ≡ full 3 248 ∷ full 3 255
    ∷ full 3 7 ∷ full 9 7 ∷ []
all_fields = refl

-- an empty stretch and one of one place merge nothing: no neighbour of them changes
empty_stretch : merge MonotoneGraphemes 3 3 (text (1 ∷ 3 ∷ 3 ∷ 3 ∷ [])) ≡ text (1 ∷ 3 ∷ 3 ∷ 3 ∷ [])
empty_stretch = refl

one_place : merge MonotoneGraphemes 1 2 (text (1 ∷ 3 ∷ 3 ∷ 3 ∷ [])) ≡ text (1 ∷ 3 ∷ 3 ∷ 3 ∷ [])
one_place = refl

-- sixteen spans of one glyph: the serial goes from 15 to 1
serials : span_bytes 0 (span 1 4 ∷ span 1 0 ∷ span 1 0 ∷ span 1 0 ∷ span 1 0 ∷ span 1 0 ∷ span 1 0 ∷ span 1 0 ∷ span 1 0
    ∷ span 1 0 ∷ span 1 0 ∷ span 1 0 ∷ span 1 0 ∷ span 1 0 ∷ span 1 0 ∷ span 1 4 ∷ []) ≡ 0x14 ∷ 0x20 ∷ 0x30 ∷ 0x40
    ∷ 0x50 ∷ 0x60 ∷ 0x70 ∷ 0x80 ∷ 0x90 ∷ 0xA0 ∷ 0xB0 ∷ 0xC0 ∷ 0xD0 ∷ 0xE0 ∷ 0xF0 ∷ 0x14 ∷ []
serials = refl

-- a span of two glyphs and one of one
two_spans : bytes (with_bytes (text (0 ∷ 1 ∷ 2 ∷ [])) (span_bytes 0 (span 2 0 ∷ span 1 4 ∷ []))) ≡ 0x10 ∷ 0x10 ∷ 0x24
    ∷ []
two_spans = refl

-- spans of sum 3 over 4 glyphs, an empty span, and spans that cover
too_few : spans_cover 4 (span 1 0 ∷ span 2 0 ∷ []) ≡ false
too_few = refl

empty_span : spans_cover 3 (span 3 0 ∷ span 0 0 ∷ []) ≡ false
empty_span = refl

covers : spans_cover 3 (span 1 0 ∷ span 2 0 ∷ []) ≡ true
covers = refl

-- the flags inside a stretch leave its least cluster out
flags_inside : masks (unsafe_inside 1 4 (map (λ c. let g : Glyph = record default_glyph { cluster = c } in g)
    (0 ∷ 1 ∷ 1 ∷ 2 ∷ 3 ∷ []))) ≡ 0 ∷ 0 ∷ 0 ∷ 3 ∷ 0 ∷ []
flags_inside = refl

-- calls of all three kinds one after another: bits add up; what the buffer doesn't ask for gives
-- none, or no break in place of a join
abbrev some_calls : List FlagCall
some_calls = UnsafeToBreak 0 3 ∷ UnsafeToConcat 1 4 ∷ SafeToInsertTatweel 2 5 ∷ []

abbrev unflagged : List ℕ → Glyphs
unflagged cs = map (λ c. let g : Glyph = record default_glyph { cluster = c } in g) cs

all_asked : masks (flags_called true true some_calls (unflagged (0 ∷ 1 ∷ 1 ∷ 2 ∷ 3 ∷ []))) ≡ 0 ∷ 3 ∷ 3 ∷ 6 ∷ 4 ∷ []
all_asked = refl

none_asked : masks (flags_called false false some_calls (unflagged (0 ∷ 1 ∷ 1 ∷ 2 ∷ 3 ∷ []))) ≡ 0 ∷ 3 ∷ 3 ∷ 3 ∷ 3 ∷ []
none_asked = refl

-- syllables are cut between different bytes
three_syllables : map (λ gs. length gs)
    (syllables (with_bytes (text (0 ∷ 1 ∷ 2 ∷ 3 ∷ 4 ∷ [])) (16 ∷ 16 ∷ 32 ∷ 16 ∷ 16 ∷ []))) ≡ 2 ∷ 1 ∷ 2 ∷ []
three_syllables = refl
