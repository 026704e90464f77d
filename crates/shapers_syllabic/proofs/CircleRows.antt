-- Dotted circles, computed on small texts.
use Rattle.std.specs.Prelude.{◌≡◌, ℕ, true, false, List, [], ◌∷◌, map, length, Option, Some, None, refl}
use Rattle.shapers_buffer.specs.Glyphs.{Glyph, Glyphs}
use Rattle.shapers_syllabic.specs.declared.ot_shaper_syllabic.circles.DottedCircles.{DottedCircles}
use Rattle.shapers_buffer.specs.Buffer.{Buffer, new_buffer}
use Rattle.shapers_syllabic.specs.CircleLaws.{circle_marks, circles_of}
use Rattle.shapers_syllabic.specs.Circles.{circled, circles_for, count_of_kind, with_circles}
use Rattle.shapers_buffer.specs.Glyph.{default_glyph}

-- a glyph by its cluster, category and syllable byte
abbrev glyph : ℕ → ℕ → ℕ → Glyph
glyph c category byte = record default_glyph { cluster = c; category = category; syllable = byte; mask = 8 }

-- glyphs of category 1 and of these syllable bytes
abbrev of_bytes : List ℕ → Glyphs
of_bytes bytes = map (λ byte. glyph 0 1 byte) bytes

-- a buffer with a broken syllable, of these glyphs
abbrev broken_text : Glyphs → Buffer
broken_text gs = record (new_buffer 100) { glyphs = gs; broken = true }

-- clusters, categories, auxiliary bytes and syllable bytes
abbrev shown : Glyphs → List (ℕ × ℕ × ℕ × ℕ)
shown gs = map (λ g. let row : ℕ × ℕ × ℕ × ℕ = (g.cluster, g.category, g.auxiliary, g.syllable) in row) gs

-- the categories alone: 11 is a circle
abbrev categories : Glyphs → List ℕ
categories gs = map (λ g. g.category) gs

abbrev circled_text : ℕ → Option ℕ → Option ℕ → Buffer → Glyphs
circled_text k repha place b = circled (circles_for (Some (record { 0 = 7 })) k 11 repha place b) b.glyphs

-- the categories of glyphs of category 1 and these bytes, where kind k is broken and no category stays in front
abbrev circled_bytes : ℕ → List ℕ → List ℕ
circled_bytes k bytes = categories (circled_text k None None (broken_text (of_bytes bytes)))

-- sixteen syllables of one glyph, the first and the last one broken: the serial wraps, so their
-- bytes are equal; both open a circle
abbrev sixteen : List ℕ
sixteen = 0x14 ∷ 0x20 ∷ 0x30 ∷ 0x40 ∷ 0x50 ∷ 0x60 ∷ 0x70 ∷ 0x80 ∷ 0x90 ∷ 0xA0 ∷ 0xB0 ∷ 0xC0 ∷ 0xD0 ∷ 0xE0 ∷ 0xF0 ∷ 0x14
    ∷ []

two_circles : circled_bytes 4 sixteen ≡ 11 ∷ 1 ∷ 1 ∷ 1 ∷ 1 ∷ 1 ∷ 1 ∷ 1 ∷ 1 ∷ 1 ∷ 1 ∷ 1 ∷ 1 ∷ 1 ∷ 1 ∷ 1 ∷ 11 ∷ 1 ∷ []
two_circles = refl

-- the first syllable broken, the last one, one inside, neighbours
first_broken : circled_bytes 4 (0x14 ∷ 0x14 ∷ 0x20 ∷ []) ≡ 11 ∷ 1 ∷ 1 ∷ 1 ∷ []
first_broken = refl

last_broken : circled_bytes 4 (0x10 ∷ 0x24 ∷ 0x24 ∷ []) ≡ 1 ∷ 11 ∷ 1 ∷ 1 ∷ []
last_broken = refl

inner_broken : circled_bytes 4 (0x10 ∷ 0x24 ∷ 0x30 ∷ []) ≡ 1 ∷ 11 ∷ 1 ∷ 1 ∷ []
inner_broken = refl

neighbours_broken : circled_bytes 4 (0x14 ∷ 0x24 ∷ 0x34 ∷ []) ≡ 11 ∷ 1 ∷ 11 ∷ 1 ∷ 11 ∷ 1 ∷ []
neighbours_broken = refl

-- each broken syllable opens one, whatever the bytes of those before it
each_opens_one : circled_bytes 4 (0x14 ∷ 0x20 ∷ 0x14 ∷ 0x24 ∷ 0x14 ∷ []) ≡ 11 ∷ 1 ∷ 1 ∷ 11 ∷ 1 ∷ 11 ∷ 1 ∷ 11 ∷ 1 ∷ []
each_opens_one = refl

-- glyphs of one byte side by side are one syllable
one_run : circled_bytes 4 (0x14 ∷ 0x14 ∷ 0x14 ∷ []) ≡ 11 ∷ 1 ∷ 1 ∷ 1 ∷ []
one_run = refl

-- where kind 0 is broken, byte 0 is a byte like the others
byte_zero : circled_bytes 0 (0 ∷ 0x10 ∷ []) ≡ 11 ∷ 1 ∷ 11 ∷ 1 ∷ []
byte_zero = refl

-- the mark of a broken syllable with none of that kind, and no text at all
none_of_the_kind : circled_bytes 4 (0x10 ∷ 0x21 ∷ 0x35 ∷ []) ≡ 1 ∷ 1 ∷ 1 ∷ []
none_of_the_kind = refl

no_text : circled_bytes 4 [] ≡ []
no_text = refl

-- a repha stays in front of the circle, which takes cluster, mask and syllable byte of the first glyph
repha_in_front : shown (circled_text 4 (Some 14) (Some 14) (broken_text (glyph 0 14 0x14 ∷ glyph 1 1 0x14 ∷ [])))
    ≡ (0, 14, 0, 0x14) ∷ (0, 11, 14, 0x14) ∷ (1, 1, 0, 0x14) ∷ []
repha_in_front = refl

-- so do several, up to the first glyph of another category
rephas_in_front : shown (circled_text 4 (Some 14) None
    (broken_text (glyph 0 14 0x14 ∷ glyph 1 14 0x14 ∷ glyph 2 1 0x14 ∷ glyph 3 14 0x14 ∷ []))) ≡ (0, 14, 0, 0x14)
    ∷ (1, 14, 0, 0x14) ∷ (0, 11, 0, 0x14) ∷ (2, 1, 0, 0x14) ∷ (3, 14, 0, 0x14) ∷ []
rephas_in_front = refl

-- with no category of rephas the circle stands in front of all
no_repha : shown (circled_text 4 None None (broken_text (glyph 0 14 0x14 ∷ glyph 1 1 0x14 ∷ []))) ≡ (0, 11, 0, 0x14)
    ∷ (0, 14, 0, 0x14) ∷ (1, 1, 0, 0x14) ∷ []
no_repha = refl

-- a syllable of rephas alone has its circle behind it, not in the next syllable, which has other
-- glyphs of that category
rephas_alone : shown (circled_text 4 (Some 14) None (broken_text (glyph 0 14 0x14 ∷ glyph 1 14 0x20 ∷ [])))
    ≡ (0, 14, 0, 0x14) ∷ (0, 11, 0, 0x14) ∷ (1, 14, 0, 0x20) ∷ []
rephas_alone = refl

-- a glyph with all fields set stays as it is, and each field of the circle
abbrev full : Glyph
full = record {
  glyph_id = 0x916;
  mask = 0x1F;
  cluster = 5;
  glyph_props = record { 0 = 0x70 };
  lig_props = record { 0 = 2 };
  syllable = 0x24;
  unicode_props = record { 0 = 0x09AC };
  category = 1;
  auxiliary = 3;
}

all_fields : circled_text 4 (Some 14) (Some 6) (broken_text (full ∷ []))
    ≡ record default_glyph { glyph_id = 7; cluster = 5; mask = 0x1F; syllable = 0x24; category = 11; auxiliary = 6 }
    ∷ full ∷ []
all_fields = refl

-- no circle where no syllable is broken, where the caller forbids circles and where the font has none
none_broken : length (circled_text 4 None None (record (broken_text (of_bytes sixteen)) { broken = false })) ≡ 16
none_broken = refl

forbidden : length (circled_text 4 None None (record (broken_text (of_bytes sixteen)) { flags = record { 0 = 0x60 } }))
    ≡ 16
forbidden = refl

no_glyph : circles_for None 4 11 None None (broken_text (of_bytes sixteen)) ≡ None
no_glyph = refl

-- how many syllables are of a kind, where circles stand, and which ones
counted : count_of_kind 4 (of_bytes sixteen) ≡ 2
counted = refl

abbrev rule : DottedCircles
rule = record { broken_kind = 4; circle = record default_glyph { category = 11 }; repha = Some 14 }

abbrev two_broken : Glyphs
two_broken = glyph 0 14 0x14 ∷ glyph 1 1 0x14 ∷ glyph 2 1 0x20 ∷ glyph 3 1 0x34 ∷ []

circled_places : circle_marks rule two_broken ≡ false ∷ true ∷ false ∷ false ∷ true ∷ false ∷ []
circled_places = refl

circles_added : shown (circles_of rule two_broken) ≡ (0, 11, 0, 0x14) ∷ (3, 11, 0, 0x34) ∷ []
circles_added = refl

all_together : shown (with_circles rule two_broken) ≡ (0, 14, 0, 0x14) ∷ (0, 11, 0, 0x14) ∷ (1, 1, 0, 0x14)
    ∷ (2, 1, 0, 0x20) ∷ (3, 11, 0, 0x34) ∷ (3, 1, 0, 0x34) ∷ []
all_together = refl
