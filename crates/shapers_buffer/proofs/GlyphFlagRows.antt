-- Glyph flags, computed on small texts: who gets which bits.
use Rattle.std.specs.Prelude.{◌≡◌, ℕ, true, false, List, [], ◌∷◌, map, refl}
use Rattle.shapers_buffer.specs.Glyphs.{Glyph, Glyphs}
use Rattle.shapers_buffer.specs.Buffer.{asks, has_flag, new_buffer}
use Rattle.shapers_buffer.specs.Glyph.{default_glyph}
use Rattle.shapers_buffer.specs.GlyphFlags.{flagged, tatweel_inside, unsafe_all, unsafe_inside, unsafe_to_concat_in}

-- glyphs of these clusters, where every mask is m
abbrev text_of : ℕ → List ℕ → Glyphs
text_of m cs = map (λ c. let g : Glyph = record default_glyph { cluster = c; mask = m } in g) cs

-- glyphs of these clusters without any mask bit
abbrev text : List ℕ → Glyphs
text cs = text_of 0 cs

abbrev masks : Glyphs → List ℕ
masks gs = map (λ g. g.mask) gs

-- a glyph whose fields are all set
abbrev full : Glyph
full = record {
  glyph_id = 0x916;
  cluster = 5;
  mask = 0x1F;
  syllable = 0x24;
  category = 1;
  auxiliary = 3;
  glyph_props = record { 0 = 0x70 };
  lig_props = record { 0 = 2 };
  unicode_props = record { 0 = 0x09AC };
}

-- of clusters that fall, rise and repeat: every place outside the least cluster, wherever that stands and however often
falls : masks (flagged 3 (text (3 ∷ 2 ∷ 1 ∷ []))) ≡ 3 ∷ 3 ∷ 0 ∷ []
falls = refl

rises : masks (flagged 3 (text (1 ∷ 2 ∷ 3 ∷ []))) ≡ 0 ∷ 3 ∷ 3 ∷ []
rises = refl

repeats : masks (flagged 3 (text (2 ∷ 1 ∷ 2 ∷ 1 ∷ 3 ∷ 1 ∷ []))) ≡ 3 ∷ 0 ∷ 3 ∷ 0 ∷ 3 ∷ 0 ∷ []
repeats = refl

dips : masks (flagged 4 (text (7 ∷ 5 ∷ 5 ∷ 6 ∷ []))) ≡ 4 ∷ 0 ∷ 0 ∷ 4 ∷ []
dips = refl

one_cluster : masks (flagged 3 (text (4 ∷ 4 ∷ 4 ∷ []))) ≡ 0 ∷ 0 ∷ 0 ∷ []
one_cluster = refl

one_glyph : masks (flagged 3 (text (4 ∷ []))) ≡ 0 ∷ []
one_glyph = refl

no_glyph : flagged 3 [] ≡ []
no_glyph = refl

-- bits come to those that are there
added_bits : masks (flagged 3 (text_of 0xFC (1 ∷ 2 ∷ []))) ≡ 0xFC ∷ 0xFF ∷ []
added_bits = refl

-- unsafe to break and to concatenate, bits 1 and 2: inside the stretch alone, without its end
break_falling : masks (unsafe_inside 1 4 (text (5 ∷ 4 ∷ 3 ∷ 2 ∷ 1 ∷ []))) ≡ 0 ∷ 3 ∷ 3 ∷ 0 ∷ 0 ∷ []
break_falling = refl

break_rising : masks (unsafe_inside 1 4 (text (1 ∷ 2 ∷ 3 ∷ 4 ∷ 5 ∷ []))) ≡ 0 ∷ 0 ∷ 3 ∷ 3 ∷ 0 ∷ []
break_rising = refl

break_repeating : masks (unsafe_inside 0 5 (text (2 ∷ 1 ∷ 1 ∷ 3 ∷ 2 ∷ []))) ≡ 3 ∷ 0 ∷ 0 ∷ 3 ∷ 3 ∷ []
break_repeating = refl

break_one_place : masks (unsafe_inside 1 2 (text (1 ∷ 2 ∷ 3 ∷ []))) ≡ 0 ∷ 0 ∷ 0 ∷ []
break_one_place = refl

break_no_place : masks (unsafe_inside 1 1 (text (1 ∷ 2 ∷ 3 ∷ []))) ≡ 0 ∷ 0 ∷ 0 ∷ []
break_no_place = refl

-- stretches one after another
break_twice : masks (unsafe_all ((0, 2) ∷ (2, 4) ∷ []) (text (1 ∷ 2 ∷ 3 ∷ 4 ∷ []))) ≡ 0 ∷ 3 ∷ 0 ∷ 3 ∷ []
break_twice = refl

-- unsafe to concatenate, bit 2: each place of the stretch, the least cluster too, and only where it is asked for
concat_asked : masks (unsafe_to_concat_in true 1 3 (text (1 ∷ 2 ∷ 3 ∷ 4 ∷ []))) ≡ 0 ∷ 2 ∷ 2 ∷ 0 ∷ []
concat_asked = refl

concat_one_place : masks (unsafe_to_concat_in true 0 1 (text_of 0xF9 (1 ∷ 2 ∷ []))) ≡ 0xFB ∷ 0xF9 ∷ []
concat_one_place = refl

concat_unasked : masks (unsafe_to_concat_in false 1 3 (text (1 ∷ 2 ∷ 3 ∷ 4 ∷ []))) ≡ 0 ∷ 0 ∷ 0 ∷ 0 ∷ []
concat_unasked = refl

-- safe to insert a tatweel, bit 4, where it is asked for, and else unsafe to break
tatweel_asked : masks (tatweel_inside true 1 4 (text (5 ∷ 4 ∷ 3 ∷ 2 ∷ 1 ∷ []))) ≡ 0 ∷ 4 ∷ 4 ∷ 0 ∷ 0 ∷ []
tatweel_asked = refl

tatweel_added : masks (tatweel_inside true 0 2 (text_of 0xF8 (1 ∷ 2 ∷ []))) ≡ 0xF8 ∷ 0xFC ∷ []
tatweel_added = refl

tatweel_unasked : masks (tatweel_inside false 1 4 (text (1 ∷ 2 ∷ 3 ∷ 4 ∷ 5 ∷ []))) ≡ 0 ∷ 0 ∷ 3 ∷ 3 ∷ 0 ∷ []
tatweel_unasked = refl

-- all other fields stay
break_keeps : unsafe_inside 0 2 (default_glyph ∷ record full { mask = 0x18 } ∷ []) ≡ default_glyph
    ∷ record full { mask = 0x1B } ∷ []
break_keeps = refl

concat_keeps : unsafe_to_concat_in true 0 1 (record full { mask = 0x18 } ∷ []) ≡ record full { mask = 0x1A } ∷ []
concat_keeps = refl

tatweel_keeps : tatweel_inside true 0 2 (default_glyph ∷ record full { mask = 0x18 } ∷ []) ≡ default_glyph
    ∷ record full { mask = 0x1C } ∷ []
tatweel_keeps = refl

-- which flags a buffer asks for: each by its own bit, whatever the others are
asked : map (λ flag. asks flag (record (new_buffer 1) { flags = record { 0 = 0x60 } })) (0x20 ∷ 0x40 ∷ 0x80 ∷ [])
    ≡ true ∷ true ∷ false ∷ []
asked = refl

asked_alone : map (λ bits. has_flag 0x40 (record { 0 = bits })) (0 ∷ 0x20 ∷ 0x40 ∷ 0x80 ∷ 0xA0 ∷ 0xC0 ∷ [])
    ≡ false ∷ false ∷ true ∷ false ∷ false ∷ true ∷ []
asked_alone = refl
