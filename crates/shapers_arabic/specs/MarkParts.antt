-- Words for the code that orders marks, which the contracts of its steps cite.
use Rattle.std.specs.Prelude.{ℕ, ◌+◌, ◌-◌, ◌==◌, nat_le, Bool, ◌&&◌, ◌||◌, List, ◌++◌, length, map, take, drop}
use Rattle.shapers_buffer.specs.Glyphs.{Glyph, Glyphs}
use Rattle.shapers_buffer.specs.Properties.{high_byte}
use Rattle.shapers_arabic.specs.declared.ot_shaper_arabic.marks.Lengths.{Lengths}
use Rattle.shapers_arabic.specs.Marks.{Marks, in_class, is_modifier_of, passed}

-- the lengths of the first four parts
abbrev pub lengths_of : Marks → Lengths
lengths_of s = record {
  low = length s.low;
  modifiers_below = length s.modifiers_below;
  middle = length s.middle;
  modifiers_above = length s.modifiers_above;
}

-- where the last of these parts ends
abbrev pub end_of : Lengths → ℕ
end_of p = p.low + p.modifiers_below + p.middle + p.modifiers_above

-- what merges of the marks
abbrev pub passed_by : Lengths → List (ℕ × ℕ)
passed_by p = passed p.low p.modifiers_below p.middle p.modifiers_above

-- whether a mark modifies a letter, from below or from above
abbrev pub is_modifier : Glyph → Bool
is_modifier g = is_modifier_of 220 g || is_modifier_of 230 g

-- the last k glyphs in front of the others, in this class
abbrev pub last_marks_first : ℕ → ℕ → Glyphs → Glyphs
last_marks_first k class gs =
    map (in_class class) (drop (length gs - k) gs) ++ take (length gs - k) gs

-- whether a character is in one of the three ranges in which the modifiers stand
abbrev pub is_among_modifiers : ℕ → Bool
is_among_modifiers c =
    nat_le 0x0654 c && nat_le c 0x0658 || nat_le 0x06DC c && nat_le c 0x06E8
    || nat_le 0x08CA c && nat_le c 0x08F3

-- whether a glyph's high byte and its character are such as a modifier's
abbrev pub may_modify : Glyph → Bool
may_modify g = let byte = high_byte g.unicode_props in
    (byte == 220 || byte == 230) && is_among_modifiers g.glyph_id
