-- Advances and widths, computed: a position with all fields set, marks and ignorable glyphs.
use Rattle.std.specs.Prelude.{◌≡◌, ℕ, ℤ, pos, negsuc, neg_ℤ, ◌+◌, ◌/◌, ◌==◌, Bool, true, false, List, [], ◌∷◌, map, None, refl}
use Rattle.shapers_base.specs.Font.{Font}
use Rattle.shapers_buffer.specs.declared.buffer.glyph.GlyphPosition.{GlyphPosition}
use Rattle.shapers_buffer.specs.Glyphs.{Glyph, Glyphs}
use Rattle.shapers_buffer.specs.declared.buffer.level.Direction.TheVariants.{Invalid, LeftToRight, RightToLeft, TopToBottom, BottomToTop}
use Rattle.shapers_buffer.specs.Glyph.{default_glyph}
use Rattle.shapers_position.specs.declared.ot_shape_position.ignorables.DefaultIgnorables.TheVariants.{Hide, Preserve, Remove}
use Rattle.shapers_position.specs.Ignorables.{ignorables_for, ignorables_zeroed, is_default_ignorable, without_extent}
use Rattle.shapers_position.specs.Metrics.{Metrics}
use Rattle.shapers_position.specs.Widths.{advanced, glyph_of, hung_back, marks_zeroed, nearest_of_32_bits, upright_position, without_advance}

-- a font whose glyphs are as wide as their numbers
abbrev font : Font
font = record {
  nominal = λ c. None;
  advance = λ glyph. pos glyph.0;
  applies = λ lookup glyphs zero. false;
  offers = λ tag. false;
}

-- and one unit higher than wide, with origins at half of that and above the baseline
abbrev metrics : Metrics
metrics = record {
  em = 1000;
  v_advance = λ glyph. neg_ℤ (pos (glyph.0 + 1));
  v_origin = λ glyph. (pos (glyph.0 / 2), pos 880);
}

abbrev glyph : ℕ → Glyph
glyph n = record default_glyph { glyph_id = n }

-- with properties as a glyph, and as a character
abbrev noted : ℕ → ℕ → ℕ → Glyph
noted n props character =
    record (glyph n) {
      glyph_props = record { 0 = props };
      unicode_props = record { 0 = character };
    }

abbrev spot : ℤ → ℤ → ℤ → ℤ → GlyphPosition
spot x y dx dy = record { x_advance = x; y_advance = y; x_offset = dx; y_offset = dy; var = 0 }

-- with what lookups keep there
abbrev kept : ℕ → ℤ → ℤ → ℤ → ℤ → GlyphPosition
kept n x y dx dy = record (spot x y dx dy) { var = n }

-- a glyph that no lookup moved; numbers above 65535 are asked for as that one
placed : map (advanced font metrics true) (glyph 0 ∷ glyph 600 ∷ glyph 65534 ∷ glyph 65535 ∷ glyph 65536 ∷
    glyph 4294967295 ∷ []) ≡ spot (pos 0) (pos 0) (pos 0) (pos 0) ∷ spot (pos 600) (pos 0) (pos 0) (pos 0) ∷
    spot (pos 65534) (pos 0) (pos 0) (pos 0) ∷ spot (pos 65535) (pos 0) (pos 0) (pos 0) ∷
    spot (pos 65535) (pos 0) (pos 0) (pos 0) ∷ spot (pos 65535) (pos 0) (pos 0) (pos 0) ∷ []
placed = refl

-- in vertical text it is drawn to the left of the pen, and below it
upright : map (advanced font metrics false) (glyph 0 ∷ glyph 600 ∷ glyph 65535 ∷ glyph 65536 ∷ [])
    ≡ spot (pos 0) (neg_ℤ (pos 1)) (pos 0) (neg_ℤ (pos 880)) ∷
    spot (pos 0) (neg_ℤ (pos 601)) (neg_ℤ (pos 300)) (neg_ℤ (pos 880)) ∷
    spot (pos 0) (neg_ℤ (pos 65536)) (neg_ℤ (pos 32767)) (neg_ℤ (pos 880)) ∷
    spot (pos 0) (neg_ℤ (pos 65536)) (neg_ℤ (pos 32767)) (neg_ℤ (pos 880)) ∷ []
upright = refl

-- offsets stop at 32 bits, and only one of them can pass these
abbrev far : Metrics
far = record metrics { v_origin = λ glyph. (neg_ℤ (pos 2147483648), pos 2147483647) }

far_origin : upright_position far (record { 0 = 5 })
    ≡ spot (pos 0) (neg_ℤ (pos 6)) (pos 2147483647) (neg_ℤ (pos 2147483647))
far_origin = refl

numbers : map glyph_of (glyph 7 ∷ glyph 65536 ∷ []) ≡ record { 0 = 7 } ∷ record { 0 = 65535 } ∷ []
numbers = refl

-- an advance goes, an offset stays
still : without_advance (kept 4294967295 (pos 500) (pos 20) (pos 3) (negsuc 3))
    ≡ kept 4294967295 (pos 0) (pos 0) (pos 3) (negsuc 3)
still = refl

-- back by the advance, along both axes; it stays until it is taken
back : hung_back (kept 4294967295 (pos 500) (neg_ℤ (pos 20)) (pos 3) (pos 4))
    ≡ kept 4294967295 (pos 500) (neg_ℤ (pos 20)) (neg_ℤ (pos 497)) (pos 24)
back = refl

-- offsets stop at the bounds of 32 bits
bounds : map nearest_of_32_bits (pos 2147483646 ∷ pos 2147483647 ∷ pos 2147483648 ∷ neg_ℤ (pos 2147483647) ∷
    neg_ℤ (pos 2147483648) ∷ neg_ℤ (pos 2147483649) ∷ []) ≡ pos 2147483646 ∷ pos 2147483647 ∷ pos 2147483647 ∷
    neg_ℤ (pos 2147483647) ∷ neg_ℤ (pos 2147483648) ∷ neg_ℤ (pos 2147483648) ∷ []
bounds = refl

-- the second of three is a mark
abbrev text : Glyphs
text = glyph 1 ∷ glyph 2 ∷ glyph 3 ∷ []

abbrev places : List GlyphPosition
places = kept 11 (pos 10) (pos 1) (pos 5) (pos 6) ∷ kept 22 (pos 20) (pos 2) (pos 7) (pos 8) ∷
    kept 33 (pos 30) (pos 3) (pos 9) (pos 4) ∷ []

abbrev is_mark : Glyph → Bool
is_mark g = g.glyph_id == 2

marks : marks_zeroed is_mark false text places ≡ kept 11 (pos 10) (pos 1) (pos 5) (pos 6) ∷
    kept 22 (pos 0) (pos 0) (pos 7) (pos 8) ∷ kept 33 (pos 30) (pos 3) (pos 9) (pos 4) ∷ []
marks = refl

marks_hung : marks_zeroed is_mark true text places ≡ kept 11 (pos 10) (pos 1) (pos 5) (pos 6) ∷
    kept 22 (pos 0) (pos 0) (neg_ℤ (pos 13)) (pos 6) ∷ kept 33 (pos 30) (pos 3) (pos 9) (pos 4) ∷ []
marks_hung = refl

no_positions : marks_zeroed is_mark true text [] ≡ []
no_positions = refl

-- ignorable: that bit of the character, without that of a glyph that a lookup put in, whatever the
-- others are
ignorables : map is_default_ignorable (noted 0 0 0 ∷ noted 0 0x10 0 ∷ noted 0 0 0x20 ∷ noted 0 0x10 0x20 ∷
    noted 0 0x60 0x20 ∷ noted 0 0xFFEF 0xFFFF ∷ noted 0 0xFFFF 0xFFFF ∷ noted 0 0xFFEF 0xFFDF ∷ [])
    ≡ false ∷ false ∷ true ∷ false ∷ true ∷ true ∷ false ∷ false ∷ []
ignorables = refl

-- an advance goes, and the offset along the line
along : without_extent true (kept 7 (pos 1) (pos 2) (pos 3) (pos 4)) ∷
    without_extent false (kept 7 (pos 1) (pos 2) (pos 3) (pos 4)) ∷ [] ≡ kept 7 (pos 0) (pos 0) (pos 0) (pos 4) ∷
    kept 7 (pos 0) (pos 0) (pos 3) (pos 0) ∷ []
along = refl

abbrev hidden : Glyphs
hidden = glyph 1 ∷ noted 2 0 0x20 ∷ noted 3 0x10 0x20 ∷ []

-- in each direction: only the second is hidden
abbrev level_place : List GlyphPosition
level_place = kept 11 (pos 10) (pos 1) (pos 5) (pos 6) ∷ kept 22 (pos 0) (pos 0) (pos 0) (pos 8) ∷
    kept 33 (pos 30) (pos 3) (pos 9) (pos 4) ∷ []

abbrev upright_place : List GlyphPosition
upright_place = kept 11 (pos 10) (pos 1) (pos 5) (pos 6) ∷ kept 22 (pos 0) (pos 0) (pos 7) (pos 0) ∷
    kept 33 (pos 30) (pos 3) (pos 9) (pos 4) ∷ []

directions : map (λ d. ignorables_zeroed Hide d hidden places) (Invalid ∷ LeftToRight ∷ RightToLeft ∷ TopToBottom ∷
    BottomToTop ∷ []) ≡ upright_place ∷ level_place ∷ level_place ∷ upright_place ∷ upright_place ∷ []
directions = refl

-- those that are drawn, or that go, keep their width
untouched : ignorables_zeroed Preserve LeftToRight hidden places ∷
    ignorables_zeroed Remove LeftToRight hidden places ∷ [] ≡ places ∷ places ∷ []
untouched = refl

-- HarfBuzz's bits 4 and 8, and no others
by_bits : map ignorables_for (0 ∷ 1 ∷ 3 ∷ 4 ∷ 8 ∷ 12 ∷ 0xFFFFFFF3 ∷ 0xFFFFFFFB ∷ 0xFFFFFFFF ∷ []) ≡ Hide ∷ Hide ∷
    Hide ∷ Preserve ∷ Remove ∷ Preserve ∷ Hide ∷ Remove ∷ Preserve ∷ []
by_bits = refl
