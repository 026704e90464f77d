-- The widths of spaces, computed: each kind, and fonts that lack what some are as wide as.
use Rattle.std.specs.Prelude.{◌≡◌, ◌==◌, ◌+◌, ℕ, ℤ, pos, neg_ℤ, Bool, true, false, List, [], ◌∷◌, map, None, Some, refl, if◌then◌else◌}
use Rattle.std.specs.List.{list_any}
use Rattle.shapers_base.specs.Font.{Font}
use Rattle.shapers_buffer.specs.declared.buffer.category.hb_unicode_general_category_t.TheVariants.{Lo, Zs}
use Rattle.shapers_buffer.specs.declared.buffer.glyph.GlyphPosition.{GlyphPosition}
use Rattle.shapers_buffer.specs.Glyphs.{Glyph}
use Rattle.shapers_buffer.specs.Glyph.{default_glyph}
use Rattle.shapers_buffer.specs.Properties.{general_category, properties}
use Rattle.shapers_position.specs.Metrics.{Metrics, along_line, line_advance}
use Rattle.shapers_position.specs.Spaces.{digits, is_space_glyph, part_of_em, space_placed, space_width, full_stops}

-- a font that has these characters, each ten units wider than its number
abbrev font : List ℕ → Font
font cs = record {
  nominal = λ c. if list_any (λ d. d == c) cs then Some (record { 0 = c }) else None;
  advance = λ glyph. pos (glyph.0 + 10);
  applies = λ lookup glyphs zero. false;
  offers = λ tag. false;
}

-- with so many units in its em, in which a glyph is twenty units higher than its number
abbrev metrics : ℕ → Metrics
metrics em = record {
  em = em;
  v_advance = λ glyph. neg_ℤ (pos (glyph.0 + 20));
  v_origin = λ glyph. (pos 0, pos 0);
}

abbrev whole : Font
whole = font (0x2C ∷ 0x2E ∷ 0x30 ∷ 0x31 ∷ 0x39 ∷ [])

-- along the line: to the right, or down
lines : along_line true 7 ∷ along_line false 7 ∷ along_line false 0 ∷
    line_advance whole (metrics 9) true (record { 0 = 30 }) ∷
    line_advance whole (metrics 9) false (record { 0 = 30 }) ∷ [] ≡ pos 7 ∷ neg_ℤ (pos 7) ∷ pos 0 ∷ pos 40 ∷
    neg_ℤ (pos 50) ∷ []
lines = refl

-- each kind, in an em of 1000, whose glyph is 251 wide: kinds 0, 7, 15, 18 and 22 stand for none
abbrev kinds_of_space : List ℕ
kinds_of_space =
    0 ∷ 1 ∷ 2 ∷ 3 ∷ 4 ∷ 5 ∷ 6 ∷ 7 ∷ 15 ∷ 16 ∷ 17 ∷ 18 ∷ 19 ∷ 20 ∷ 21 ∷ 22 ∷ 255 ∷ []

kinds : map (λ kind. space_width whole (metrics 1000) true kind (pos 251)) kinds_of_space ≡ pos 251 ∷ pos 1000 ∷
    pos 500 ∷ pos 333 ∷ pos 250 ∷ pos 200 ∷ pos 167 ∷ pos 251 ∷ pos 251 ∷ pos 63 ∷ pos 222 ∷ pos 251 ∷ pos 58 ∷
    pos 56 ∷ pos 125 ∷ pos 251 ∷ pos 251 ∷ []
kinds = refl

-- in vertical text, where the glyph is 251 high
upright_kinds : map (λ kind. space_width whole (metrics 1000) false kind (neg_ℤ (pos 251))) kinds_of_space
    ≡ map (λ n. neg_ℤ (pos n)) (251 ∷ 1000 ∷ 500 ∷ 333 ∷ 250 ∷ 200 ∷ 167 ∷ 251 ∷ 251 ∷ 63 ∷ 222 ∷ 251 ∷ 68 ∷ 66 ∷
    125 ∷ 251 ∷ 251 ∷ [])
upright_kinds = refl

-- parts are rounded, a half up; the least and the greatest em
parts : part_of_em 1 2 ∷ part_of_em 3 2 ∷ part_of_em 7 3 ∷ part_of_em 8 3 ∷ part_of_em 8 16 ∷ part_of_em 7 16 ∷
    part_of_em 0 1 ∷ part_of_em 65535 1 ∷ [] ≡ 1 ∷ 2 ∷ 2 ∷ 3 ∷ 1 ∷ 0 ∷ 0 ∷ 65535 ∷ []
parts = refl

eighteenths : map (λ em. space_width whole (metrics em) true 17 (pos 1)) (0 ∷ 4 ∷ 5 ∷ 2048 ∷ 65535 ∷ []) ≡ pos 0 ∷
    pos 0 ∷ pos 1 ∷ pos 455 ∷ pos 14563 ∷ []
eighteenths = refl

-- the first digit that there is, and the stop, else the comma; where there is none, the advance stays
abbrev lacks : ℕ → List ℕ → Bool → ℤ
lacks kind cs horizontal = space_width (font cs) (metrics 1000) horizontal kind (pos 7)

lacking : map (λ cs. lacks 19 cs true) ((0x39 ∷ 0x31 ∷ []) ∷ (0x39 ∷ []) ∷ (0x3A ∷ 0x2F ∷ []) ∷ [] ∷ []) ≡ pos 59 ∷
    pos 67 ∷ pos 7 ∷ pos 7 ∷ []
lacking = refl

lacking_stops : map (λ cs. lacks 20 cs true) ((0x2C ∷ 0x2E ∷ []) ∷ (0x2C ∷ []) ∷ (0x2D ∷ []) ∷ [] ∷ []) ≡ pos 56 ∷
    pos 54 ∷ pos 7 ∷ pos 7 ∷ []
lacking_stops = refl

lacking_upright : map (λ cs. lacks 19 cs false) ((0x39 ∷ 0x31 ∷ []) ∷ (0x39 ∷ []) ∷ [] ∷ []) ≡ neg_ℤ (pos 69) ∷
    neg_ℤ (pos 77) ∷ pos 7 ∷ []
lacking_upright = refl

-- half, toward zero
halves : map (λ advance. space_width whole (metrics 1000) true 21 advance) (pos 250 ∷ pos 251 ∷ pos 1 ∷ pos 0 ∷
    neg_ℤ (pos 1) ∷ neg_ℤ (pos 251) ∷ []) ≡ pos 125 ∷ pos 125 ∷ pos 0 ∷ pos 0 ∷ pos 0 ∷ neg_ℤ (pos 125) ∷ []
halves = refl

digit_rows : digits ≡ 48 ∷ 49 ∷ 50 ∷ 51 ∷ 52 ∷ 53 ∷ 54 ∷ 55 ∷ 56 ∷ 57 ∷ []
digit_rows = refl

stop_rows : full_stops ≡ 46 ∷ 44 ∷ []
stop_rows = refl

-- a space by its category, unless a lookup put it in for several
abbrev space : ℕ → Glyph
space bits = record default_glyph { glyph_props = record { 0 = bits }; unicode_props = properties Zs 1 }

abbrev no_space : Glyph
no_space = record default_glyph { unicode_props = properties Lo 1 }

-- a space of the same kind with the bits between
abbrev noted_space : Glyph
noted_space = record default_glyph { unicode_props = record { 0 = 0x01FD } }

spaces : map is_space_glyph (space 0 ∷ space 0x10 ∷ space 0x20 ∷ space 0xFFDF ∷ space 0xFFFF ∷ noted_space ∷ no_space ∷
    []) ≡ true ∷ true ∷ false ∷ true ∷ false ∷ true ∷ false ∷ []
unfolding general_category
spaces = refl

abbrev place : ℕ → GlyphPosition
place x = record { x_advance = pos x; y_advance = pos 2; x_offset = pos 3; y_offset = pos 4; var = 5 }

placed : map (λ g. space_placed whole (metrics 1000) true g (place 9)) (space 0 ∷ noted_space ∷ space 0x20 ∷ no_space
    ∷ []) ≡ place 1000 ∷ place 1000 ∷ place 9 ∷ place 9 ∷ []
unfolding general_category
placed = refl

abbrev upright_place : GlyphPosition
upright_place =
    record {
      x_advance = pos 9;
      y_advance = neg_ℤ (pos 1000);
      x_offset = pos 3;
      y_offset = pos 4;
      var = 5;
    }

placed_upright : map (λ g. space_placed whole (metrics 1000) false g (place 9)) (space 0 ∷ noted_space ∷ space 0x20
    ∷ no_space ∷ []) ≡ upright_place ∷ upright_place ∷ place 9 ∷ place 9 ∷ []
unfolding general_category
placed_upright = refl
