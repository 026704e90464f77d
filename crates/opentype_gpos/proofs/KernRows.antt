-- The table `kern` over bytes written out as OpenType lays them out.
use Rattle.std.specs.Prelude.{◌≡◌, ℕ, pos, negsuc, List, [], ◌∷◌, ◌++◌, refl}
use Rattle.shapers_buffer.specs.Glyph.{default_glyph, default_position}
use Rattle.shapers_buffer.specs.Glyphs.{Glyph, Glyphs}
use Rattle.shapers_buffer.specs.declared.buffer.glyph.GlyphPosition.{GlyphPosition}
use Rattle.shapers_buffer.specs.declared.buffer.level.Direction.TheVariants.{LeftToRight, RightToLeft, TopToBottom}
use Rattle.opentype_face.specs.Ranges.{bisect}
use Rattle.opentype_layout.specs.Sight.{ignores, may_pass, next_from, seen_as}
use Rattle.opentype_gpos.specs.Finished.{let_go}
use Rattle.opentype_gpos.specs.Joined.{with_across}
use Rattle.opentype_gpos.specs.Kerned.{PlacedText, in_one_line, kern_class, kern_half, kern_rest, kern_stepped, kern_value, kern_whole, kerned_along, kerned_by, kerned_by_subtables, kerned_text, pair_kerned, value_of_pair, with_half, with_rest}
use Rattle.opentype_gpos.specs.Moved.{Positions, flagged_up_to}
use Rattle.opentype_gpos.specs.Nearby.{any_seen}
use Rattle.opentype_gpos.specs.Along.{applied_along}

-- format 0, for horizontal lines: glyphs 5 and 6 come 31 units nearer, 6 and 7 four farther
abbrev listed : ℕ → List ℕ
listed coverage = 0 ∷ 0 ∷ 0 ∷ 26 ∷ 0 ∷ coverage ∷ 0 ∷ 2 ∷ 0 ∷ 12 ∷ 0 ∷ 1 ∷ 0 ∷ 0
    ∷ 0 ∷ 5 ∷ 0 ∷ 6 ∷ 255 ∷ 225 ∷ 0 ∷ 6 ∷ 0 ∷ 7 ∷ 0 ∷ 4 ∷ []

listed-first : kern_value (listed 1) 5 6 ≡ 65505
unfolding kern_value value_of_pair bisect
listed-first = refl

listed-last : kern_value (listed 1) 6 7 ≡ 4
unfolding kern_value value_of_pair bisect
listed-last = refl

listed-reversed : kern_value (listed 1) 6 5 ≡ 0
unfolding kern_value value_of_pair bisect
listed-reversed = refl

listed-none : kern_value (listed 1) 5 7 ≡ 0
unfolding kern_value value_of_pair bisect
listed-none = refl

-- format 2: on the left glyphs 5 and 6, of rows at 26 and 30 bytes; on the right glyphs 6, 7 and 8, of columns 0, 2 and
-- none
abbrev classed : List ℕ
classed = 0 ∷ 0 ∷ 0 ∷ 34 ∷ 2 ∷ 1 ∷ 0 ∷ 4 ∷ 0 ∷ 14 ∷ 0 ∷ 34 ∷ 0 ∷ 26
    ∷ 0 ∷ 5 ∷ 0 ∷ 2 ∷ 0 ∷ 26 ∷ 0 ∷ 30 ∷ 0 ∷ 0 ∷ 0 ∷ 0
    ∷ 0 ∷ 1 ∷ 0 ∷ 2 ∷ 0 ∷ 3 ∷ 0 ∷ 4
    ∷ 0 ∷ 6 ∷ 0 ∷ 3 ∷ 0 ∷ 0 ∷ 0 ∷ 2 ∷ 0 ∷ 1 ∷ []

classed-first : kern_value classed 5 6 ≡ 1
unfolding kern_value kern_class
classed-first = refl

classed-column : kern_value classed 5 7 ≡ 2
unfolding kern_value kern_class
classed-column = refl

classed-row : kern_value classed 6 7 ≡ 4
unfolding kern_value kern_class
classed-row = refl

classed-before : kern_value classed 4 7 ≡ 0
unfolding kern_value kern_class
classed-before = refl

classed-behind : kern_value classed 7 7 ≡ 0
unfolding kern_value kern_class
classed-behind = refl

classed-no_class : kern_value classed 5 8 ≡ 0
unfolding kern_value kern_class
classed-no_class = refl

classed-past : kern_value classed 5 9 ≡ 0
unfolding kern_value kern_class
classed-past = refl

-- format 1 says nothing
other_format : kern_value (0 ∷ 0 ∷ 0 ∷ 26 ∷ 1 ∷ 1 ∷ 0 ∷ 2 ∷ 0 ∷ 12 ∷ 0 ∷ 1 ∷ 0 ∷ 0 ∷ 0 ∷ 5 ∷ 0 ∷ 6 ∷ 255 ∷ 225 ∷ []) 5 6 ≡ 0
unfolding kern_value
other_format = refl

-- a half, rounded down, and the rest: -31 is -16 and -15, 5 is 2 and 3
half_below : kern_half 65505 ≡ negsuc 15
half_below = refl

rest_below : kern_rest 65505 ≡ negsuc 14
rest_below = refl

half_above : kern_half 5 ≡ pos 2
half_above = refl

rest_above : kern_rest 5 ≡ pos 3
rest_above = refl

least : kern_whole 32768 ≡ negsuc 32767
least = refl

greatest : kern_whole 32767 ≡ pos 32767
greatest = refl

-- ---- texts
abbrev glyph : ℕ → ℕ → Glyph
glyph number cluster = record default_glyph { glyph_id = number; cluster = cluster; mask = 16 }

abbrev bound : ℕ → ℕ → Glyph
bound number cluster = record (glyph number cluster) { mask = 19 }

abbrev mark : ℕ → ℕ → Glyph
mark number cluster = record (glyph number cluster) { glyph_props = record { 0 = 8 } }

abbrev bound_mark : ℕ → ℕ → Glyph
bound_mark number cluster = record (bound number cluster) { glyph_props = record { 0 = 8 } }

abbrev wide : GlyphPosition
wide = record default_position { x_advance = pos 500; y_advance = pos 700 }

abbrev table : List ℕ → List ℕ
table subtable = (0 ∷ 0 ∷ 0 ∷ 1 ∷ []) ++ subtable

abbrev placed : Glyphs → Positions → PlacedText
placed gs ps = record { glyphs = gs; positions = ps }

-- the mark between is passed over, and there is no break up to glyph 6
over_mark : kerned_text (table (listed 1)) 16 LeftToRight (placed (glyph 5 0 ∷ mark 9 1 ∷ glyph 6 2 ∷ []) (wide ∷ wide ∷ wide ∷ []))
    ≡ placed (glyph 5 0 ∷ bound_mark 9 1 ∷ bound 6 2 ∷ [])
    (record wide { x_advance = pos 484 } ∷ wide ∷ record wide { x_advance = pos 485; x_offset = negsuc 14 } ∷ [])
unfolding kerned_text kerned_by_subtables kerned_by kerned_along applied_along kern_stepped kern_value value_of_pair bisect any_seen seen_as ignores may_pass next_from pair_kerned with_half with_rest flagged_up_to
over_mark = refl

-- Backward text is drawn from its end on: glyph 5 behind glyph 6 is the left one.
from_right : kerned_text (table (listed 1)) 16 RightToLeft (placed (glyph 6 0 ∷ glyph 5 1 ∷ []) (wide ∷ wide ∷ []))
    ≡ placed (glyph 6 0 ∷ bound 5 1 ∷ [])
    (record wide { x_advance = pos 485; x_offset = negsuc 14 } ∷ record wide { x_advance = pos 484 } ∷ [])
unfolding kerned_text kerned_by_subtables kerned_by kerned_along applied_along kern_stepped kern_value value_of_pair bisect any_seen seen_as ignores may_pass next_from pair_kerned with_half with_rest flagged_up_to
from_right = refl

-- not so without the feature, whichever of the two has none
first_off : kerned_text (table (listed 1)) 16 LeftToRight
    (placed (record (glyph 5 0) { mask = 8 } ∷ glyph 6 1 ∷ []) (wide ∷ wide ∷ []))
    ≡ placed (record (glyph 5 0) { mask = 8 } ∷ glyph 6 1 ∷ []) (wide ∷ wide ∷ [])
unfolding kerned_text kerned_by_subtables kerned_by kerned_along applied_along kern_stepped kern_value value_of_pair bisect any_seen seen_as ignores may_pass next_from pair_kerned with_half with_rest flagged_up_to
first_off = refl

second_off : kerned_text (table (listed 1)) 16 LeftToRight
    (placed (glyph 5 0 ∷ record (glyph 6 1) { mask = 8 } ∷ []) (wide ∷ wide ∷ []))
    ≡ placed (glyph 5 0 ∷ record (glyph 6 1) { mask = 8 } ∷ []) (wide ∷ wide ∷ [])
unfolding kerned_text kerned_by_subtables kerned_by kerned_along applied_along kern_stepped kern_value value_of_pair bisect any_seen seen_as ignores may_pass next_from pair_kerned with_half with_rest flagged_up_to
second_off = refl

-- downwards a subtable for horizontal lines does nothing, and one for others does
not_upright : kerned_text (table (listed 1)) 16 TopToBottom (placed (glyph 5 0 ∷ glyph 6 1 ∷ []) (wide ∷ wide ∷ []))
    ≡ placed (glyph 5 0 ∷ glyph 6 1 ∷ []) (wide ∷ wide ∷ [])
unfolding kerned_text kerned_by_subtables kerned_by
not_upright = refl

upright : kerned_text (table (listed 0)) 16 TopToBottom (placed (glyph 5 0 ∷ glyph 6 1 ∷ []) (wide ∷ wide ∷ []))
    ≡ placed (glyph 5 0 ∷ bound 6 1 ∷ [])
    (record wide { y_advance = pos 684 } ∷ record wide { y_advance = pos 685; y_offset = negsuc 14 } ∷ [])
unfolding kerned_text kerned_by_subtables kerned_by kerned_along applied_along kern_stepped kern_value value_of_pair bisect any_seen seen_as ignores may_pass next_from pair_kerned with_half with_rest flagged_up_to
upright = refl

-- across the line: each glyph is attached to the one drawn before it, 65535 is -1; of three bits Minimum and Override
-- (2 and 8) change nothing
across : kerned_text (table (listed 15)) 16 LeftToRight (placed (glyph 5 0 ∷ glyph 6 1 ∷ []) (wide ∷ wide ∷ []))
    ≡ placed (glyph 5 0 ∷ bound 6 1 ∷ [])
    (record wide { var = 131072 } ∷ record wide { y_offset = negsuc 30; var = 196607 } ∷ [])
unfolding kerned_text kerned_by_subtables kerned_by kerned_along in_one_line let_go applied_along kern_stepped kern_value value_of_pair bisect any_seen seen_as ignores may_pass next_from pair_kerned with_across flagged_up_to
across = refl

across_from_right : kerned_text (table (listed 5)) 16 RightToLeft (placed (glyph 6 0 ∷ glyph 5 1 ∷ []) (wide ∷ wide ∷ []))
    ≡ placed (glyph 6 0 ∷ bound 5 1 ∷ [])
    (record wide { y_offset = negsuc 30; var = 131073 } ∷ record wide { var = 131072 } ∷ [])
unfolding kerned_text kerned_by_subtables kerned_by kerned_along in_one_line let_go applied_along kern_stepped kern_value value_of_pair bisect any_seen seen_as ignores may_pass next_from pair_kerned with_across flagged_up_to
across_from_right = refl

-- a subtable of format 3, which says nothing, and then one with 4 units for glyphs 6 and 7; one shorter than its header
-- ends the list
abbrev two_tables : ℕ → List ℕ
two_tables len = (0 ∷ 0 ∷ 0 ∷ 2 ∷ 0 ∷ 0 ∷ 0 ∷ len ∷ 3 ∷ 1 ∷ []) ++ listed 1

second_table : kerned_text (two_tables 6) 16 LeftToRight (placed (glyph 6 0 ∷ glyph 7 1 ∷ []) (wide ∷ wide ∷ []))
    ≡ placed (glyph 6 0 ∷ bound 7 1 ∷ []) (record wide { x_advance = pos 502 } ∷ record wide { x_advance = pos 502; x_offset = pos 2 } ∷ [])
unfolding kerned_text kerned_by_subtables kerned_by kerned_along applied_along kern_stepped kern_value value_of_pair bisect any_seen seen_as ignores may_pass next_from pair_kerned with_half with_rest flagged_up_to
second_table = refl

short_table : kerned_text (two_tables 5) 16 LeftToRight (placed (glyph 6 0 ∷ glyph 7 1 ∷ []) (wide ∷ wide ∷ []))
    ≡ placed (glyph 6 0 ∷ glyph 7 1 ∷ []) (wide ∷ wide ∷ [])
unfolding kerned_text kerned_by_subtables
short_table = refl

-- version 1 isn't read
other_version : kerned_text ((0 ∷ 1 ∷ 0 ∷ 1 ∷ []) ++ listed 1) 16 LeftToRight (placed (glyph 5 0 ∷ glyph 6 1 ∷ []) (wide ∷ wide ∷ []))
    ≡ placed (glyph 5 0 ∷ glyph 6 1 ∷ []) (wide ∷ wide ∷ [])
unfolding kerned_text
other_version = refl
