-- Marks without GPOS, by boxes written out.
use Rattle.std.specs.Prelude.{◌≡◌, ◌==◌, ◌*◌, ◌+◌, ℕ, ℤ, pos, negsuc, true, false, [], ◌∷◌, Option, None, Some, if◌then◌else◌, refl}
use Rattle.shapers_buffer.specs.Glyph.{default_glyph, default_position}
use Rattle.shapers_buffer.specs.Glyphs.{Glyph}
use Rattle.shapers_buffer.specs.Properties.{general_category, modified_combining_class}
use Rattle.shapers_buffer.specs.declared.buffer.glyph.GlyphPosition.{GlyphPosition}
use Rattle.shapers_buffer.specs.declared.buffer.level.Direction.{Direction}
use Rattle.shapers_buffer.specs.declared.buffer.level.Direction.TheVariants.{LeftToRight, RightToLeft, TopToBottom}
use Rattle.opentype_gpos.specs.Fallback.{MarkFont, at_class, at_component, brought_back, glyph_around, mark_class, mark_upon, marks_around, marks_stepped, marks_without_box, placed_around, upon_box, without_box}
use Rattle.opentype_gpos.specs.MarkBoxes.{across_place, component_box, placed_above, placed_below, upright_place}
use Rattle.opentype_gpos.specs.Moved.{flagged_up_to}
use Rattle.opentype_gpos.specs.declared.mark_boxes.GlyphBox.{GlyphBox}

abbrev box : ℤ → ℤ → ℤ → ℤ → GlyphBox
box x y width height = record { x_bearing = x; y_bearing = y; width = width; height = height }

-- a base 600 wide, from 0 up to 700, and a mark 100 wide and 50 high, its top at 800, 20 right of its origin
abbrev base : GlyphBox
base = box (pos 0) (pos 700) (pos 600) (negsuc 699)

abbrev mark : GlyphBox
mark = box (pos 20) (pos 800) (pos 100) (negsuc 49)

-- ---- across: in the middle, at the left, at the right, between two letters
middle : across_place LeftToRight 230 base mark ≡ pos 230
unfolding across_place
middle = refl

left : across_place LeftToRight 228 base mark ≡ negsuc 19
unfolding across_place
left = refl

left_below : across_place LeftToRight 218 base mark ≡ negsuc 19
unfolding across_place
left_below = refl

left_attached : across_place LeftToRight 200 base mark ≡ negsuc 19
unfolding across_place
left_attached = refl

right : across_place LeftToRight 232 base mark ≡ pos 480
unfolding across_place
right = refl

right_below : across_place LeftToRight 222 base mark ≡ pos 480
unfolding across_place
right_below = refl

right_attached : across_place LeftToRight 216 base mark ≡ pos 480
unfolding across_place
right_attached = refl

double_forwards : across_place LeftToRight 233 base mark ≡ pos 530
unfolding across_place
double_forwards = refl

double_backwards : across_place RightToLeft 234 base mark ≡ negsuc 69
unfolding across_place
double_backwards = refl

double_upright : across_place TopToBottom 234 base mark ≡ pos 230
unfolding across_place
double_upright = refl

other_class : across_place LeftToRight 224 base mark ≡ pos 230
unfolding across_place
other_class = refl

-- ---- upright, with a gap of 62: above, the mark's bottom comes 62 above the base's top
above : upright_place 62 230 base mark ≡ record { y = pos 12; rest = box (pos 0) (pos 812) (pos 600) (negsuc 811) }
unfolding upright_place placed_above
above = refl

-- a mark that would come down by 88 comes down by 44
above_high : upright_place 62 230 base (box (pos 20) (pos 900) (pos 100) (negsuc 49))
    ≡ record { y = negsuc 43; rest = box (pos 0) (pos 856) (pos 600) (negsuc 855) }
unfolding upright_place placed_above
above_high = refl

above_attached : upright_place 62 214 base mark
    ≡ record { y = negsuc 24; rest = box (pos 0) (pos 775) (pos 600) (negsuc 774) }
unfolding upright_place placed_above
above_attached = refl

-- below, its top comes 62 below the base's bottom, and the next one below it
abbrev low : GlyphBox
low = box (pos 20) (negsuc 9) (pos 100) (negsuc 49)

below : upright_place 62 220 base low ≡ record { y = negsuc 51; rest = box (pos 0) (pos 700) (pos 600) (negsuc 811) }
unfolding upright_place placed_below
below = refl

-- it never goes up
below_high : upright_place 62 220 base (box (pos 20) (negsuc 99) (pos 100) (negsuc 49))
    ≡ record { y = pos 0; rest = box (pos 0) (pos 700) (pos 600) (negsuc 849) }
unfolding upright_place placed_below
below_high = refl

below_attached : upright_place 62 202 base low
    ≡ record { y = pos 0; rest = box (pos 0) (pos 700) (pos 600) (negsuc 759) }
unfolding upright_place placed_below
below_attached = refl

-- of other classes it stays
stays : upright_place 62 224 base mark ≡ record { y = pos 0; rest = base }
unfolding upright_place
stays = refl

-- ---- parts of a ligature of three components, 600 wide
first_part : component_box false 3 1 base ≡ box (pos 0) (pos 700) (pos 200) (negsuc 699)
unfolding component_box
first_part = refl

last_part : component_box false 3 3 base ≡ box (pos 400) (pos 700) (pos 200) (negsuc 699)
unfolding component_box
last_part = refl

first_from_right : component_box true 3 1 base ≡ box (pos 400) (pos 700) (pos 200) (negsuc 699)
unfolding component_box
first_from_right = refl

-- ---- classes: the lists' ends and what stands beside them
sara_i : mark_class 0x0E34 0 ≡ 232
unfolding mark_class
sara_i = refl

sara_uee : mark_class 0x0E37 0 ≡ 232
unfolding mark_class
sara_uee = refl

mai_han_akat : mark_class 0x0E31 0 ≡ 232
unfolding mark_class
mai_han_akat = refl

yamakkan : mark_class 0x0E4E 0 ≡ 232
unfolding mark_class
yamakkan = refl

mai_kan : mark_class 0x0EB1 0 ≡ 230
unfolding mark_class
mai_kan = refl

semivowel_lo : mark_class 0x0EBC 0 ≡ 220
unfolding mark_class
semivowel_lo = refl

no_class : mark_class 0x0E30 0 ≡ 0
unfolding mark_class
no_class = refl

phinthu : mark_class 0x0E3A 9 ≡ 222
unfolding mark_class
phinthu = refl

sara_u : mark_class 0x0E38 3 ≡ 222
unfolding mark_class
sara_u = refl

mai_ek : mark_class 0x0E48 107 ≡ 232
unfolding mark_class
mai_ek = refl

sheva : mark_class 0x05B0 22 ≡ 220
unfolding mark_class
sheva = refl

hataf_segol : mark_class 0x05B1 15 ≡ 220
unfolding mark_class
hataf_segol = refl

meteg : mark_class 0x05BD 25 ≡ 220
unfolding mark_class
meteg = refl

rafe : mark_class 0x05BF 13 ≡ 214
unfolding mark_class
rafe = refl

shin_dot : mark_class 0x05C1 10 ≡ 232
unfolding mark_class
shin_dot = refl

sin_dot : mark_class 0x05C2 11 ≡ 228
unfolding mark_class
sin_dot = refl

holam : mark_class 0x05B9 14 ≡ 228
unfolding mark_class
holam = refl

varika : mark_class 0xFB1E 26 ≡ 230
unfolding mark_class
varika = refl

dagesh : mark_class 0x05BC 12 ≡ 12
unfolding mark_class
dagesh = refl

shadda : mark_class 0x0651 27 ≡ 230
unfolding mark_class
shadda = refl

kasratan : mark_class 0x064D 30 ≡ 220
unfolding mark_class
kasratan = refl

damma : mark_class 0x064F 32 ≡ 230
unfolding mark_class
damma = refl

kasra : mark_class 0x0650 33 ≡ 220
unfolding mark_class
kasra = refl

superscript_alaph : mark_class 0x0711 36 ≡ 230
unfolding mark_class
superscript_alaph = refl

lao_u : mark_class 0x0EB8 118 ≡ 220
unfolding mark_class
lao_u = refl

lao_mai_ek : mark_class 0x0EC8 122 ≡ 230
unfolding mark_class
lao_mai_ek = refl

tibetan_aa : mark_class 0x0F71 129 ≡ 220
unfolding mark_class
tibetan_aa = refl

tibetan_i : mark_class 0x0F72 132 ≡ 230
unfolding mark_class
tibetan_i = refl

tibetan_u : mark_class 0x0F74 131 ≡ 220
unfolding mark_class
tibetan_u = refl

acute : mark_class 0x0301 230 ≡ 230
unfolding mark_class
acute = refl

-- ---- a text: glyph 5 is a base, glyphs 20 and 21 are marks above (category 12 is Mn, class 230 is in the high byte)
abbrev letter : ℕ → Glyph
letter cluster = record default_glyph { glyph_id = 5; cluster = cluster; mask = 16; unicode_props = record { 0 = 5 } }

abbrev sign : ℕ → ℕ → Glyph
sign number cluster = record default_glyph { glyph_id = number; cluster = cluster; mask = 16; unicode_props = record { 0 = 12 + 256 * 230 } }

abbrev bound_sign : ℕ → ℕ → Glyph
bound_sign number cluster = record (sign number cluster) { mask = 19 }

abbrev boxes : ℕ → Option GlyphBox
boxes glyph = if glyph == 5 then Some base else (if glyph == 20 then Some mark else None)

abbrev font : Direction → MarkFont
font direction = record { box = boxes; advance = λ (g : ℕ). pos 600; gap = 62; direction = direction; from_right = false }

abbrev wide : GlyphPosition
wide = record default_position { x_advance = pos 600 }

abbrev narrow : GlyphPosition
narrow = record default_position { x_advance = pos 90 }

-- the second mark comes upon the first, and both come back over the base; there is no break between
two_above : marks_stepped (font LeftToRight) (letter 0 ∷ sign 20 1 ∷ sign 20 2 ∷ letter 3 ∷ []) (wide ∷ narrow ∷ narrow ∷ wide ∷ []) 0
    ≡ record {
      glyphs = letter 0 ∷ bound_sign 20 1 ∷ bound_sign 20 2 ∷ letter 3 ∷ [];
      positions = wide ∷ record default_position { x_offset = negsuc 369; y_offset = pos 12 }
          ∷ record default_position { x_offset = negsuc 369; y_offset = pos 124 } ∷ wide ∷ [];
      next = 3;
    }
unfolding marks_stepped general_category flagged_up_to placed_around marks_around glyph_around modified_combining_class at_component at_class mark_upon upon_box upright_place placed_above across_place brought_back
two_above = refl

-- in backward text the mark is drawn before the base
above_backwards : marks_stepped (font RightToLeft) (letter 0 ∷ sign 20 1 ∷ []) (wide ∷ narrow ∷ []) 0
    ≡ record {
      glyphs = letter 0 ∷ bound_sign 20 1 ∷ [];
      positions = wide ∷ record default_position { x_offset = pos 230; y_offset = pos 12 } ∷ [];
      next = 2;
    }
unfolding marks_stepped general_category flagged_up_to placed_around marks_around glyph_around modified_combining_class at_component at_class mark_upon upon_box upright_place placed_above across_place brought_back
above_backwards = refl

-- a mark without a box comes back over the base
no_own_box : marks_stepped (font LeftToRight) (letter 0 ∷ sign 21 1 ∷ []) (wide ∷ narrow ∷ []) 0
    ≡ record {
      glyphs = letter 0 ∷ bound_sign 21 1 ∷ [];
      positions = wide ∷ record default_position { x_offset = negsuc 599 } ∷ [];
      next = 2;
    }
unfolding marks_stepped general_category flagged_up_to placed_around marks_around glyph_around modified_combining_class at_component at_class mark_upon brought_back
no_own_box = refl

-- and one behind a base without a box hangs over it in forward text
no_base_box : marks_stepped (font LeftToRight) (record (letter 0) { glyph_id = 6 } ∷ sign 20 1 ∷ []) (wide ∷ narrow ∷ []) 0
    ≡ record {
      glyphs = record (letter 0) { glyph_id = 6 } ∷ bound_sign 20 1 ∷ [];
      positions = wide ∷ record default_position { x_offset = negsuc 89 } ∷ [];
      next = 2;
    }
unfolding marks_stepped general_category flagged_up_to placed_around marks_without_box without_box
no_base_box = refl

no_base_box_backwards : marks_stepped (font RightToLeft) (record (letter 0) { glyph_id = 6 } ∷ sign 20 1 ∷ []) (wide ∷ narrow ∷ []) 0
    ≡ record {
      glyphs = record (letter 0) { glyph_id = 6 } ∷ bound_sign 20 1 ∷ [];
      positions = wide ∷ default_position ∷ [];
      next = 2;
    }
unfolding marks_stepped general_category flagged_up_to placed_around marks_without_box without_box
no_base_box_backwards = refl

-- marks that begin a text have no base
no_base : marks_stepped (font LeftToRight) (sign 20 0 ∷ sign 20 1 ∷ []) (narrow ∷ narrow ∷ []) 0
    ≡ record { glyphs = sign 20 0 ∷ sign 20 1 ∷ []; positions = narrow ∷ narrow ∷ []; next = 2 }
unfolding marks_stepped general_category
no_base = refl
