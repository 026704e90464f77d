-- Worked rows: the pairs that a font finds in a text, what it makes of them, and that it does so piece by piece.
use Rattle.std.proofs.Common.{Bool, None, Option, Some, [], ap, arith, false, min, negsuc, pos, refl, true, unsigned_abs, ℕ, ◌-◌, ◌^◌, ◌∷◌, ◌≡◌, ◌≤◌}
use Rattle.shapers_buffer.specs.Buffer.{Buffer, new_buffer}
use Rattle.shapers_buffer.specs.Glyph.{default_glyph, default_position}
use Rattle.shapers_buffer.specs.Glyphs.{Glyph, Glyphs}
use Rattle.shapers_buffer.specs.declared.buffer.glyph.GlyphPosition.{GlyphPosition}
use Rattle.shapers_buffer.specs.declared.buffer.level.Direction.TheVariants.{LeftToRight, TopToBottom}
use Rattle.opentype_face.specs.Firsts.{first_from}
use Rattle.opentype_face.specs.Lookups.{lookup_in}
use Rattle.opentype_face.specs.Ranges.{bisect}
use Rattle.opentype_font.specs.Lookups.{application_for, positioned_by}
use Rattle.opentype_gpos.specs.Along.{applied_along, position_stepped, positioned}
use Rattle.opentype_gpos.specs.Coming.{came_in, nth_came, sights_in}
use Rattle.opentype_gpos.specs.Looked.{tried}
use Rattle.opentype_gpos.specs.Making.{moved}
use Rattle.opentype_gpos.specs.Moved.{Positions, does_move, flagged_up_to, pair_moved, value_added, with_value}
use Rattle.opentype_gpos.specs.Moves.{one_move, pair_move, pair_with}
use Rattle.opentype_gpos.specs.Nearby.{any_seen}
use Rattle.opentype_gpos.specs.declared.moves.PairMove.{PairMove}
use Rattle.opentype_gpos.specs.declared.values.Value.{Value}
use Rattle.opentype_layout.specs.Sight.{flag_in, ignores, may_pass, next_from, seen_as, sight_of_context, sight_of_input}
use Rattle.opentype_break_laws.proofs.PairTexts.{short_texts}
use Rattle.opentype_break_laws.specs.Pairs.{IsOf32Bits, IsOfNumbers, MovesPairs, TakesPairs, holds_together, pair_seen, pair_end}
use Rattle.opentype_break_laws.specs.PlacedPieces.{placed_in}
use Rattle.opentype_break_laws.specs.TwoPairs.{two_pairs}
use Rattle.opentype_break_laws.specs.TwoSingles.{first_lookup}

-- a glyph by its number and cluster, a mark, and one without the lookup's feature
abbrev glyph : ℕ → ℕ → Glyph
glyph number c = record default_glyph { glyph_id = number; cluster = c; mask = 256 }

abbrev mark : ℕ → ℕ → Glyph
mark number c = record (glyph number c) { glyph_props = record { 0 = 8 } }

abbrev other : ℕ → ℕ → Glyph
other number c = record (glyph number c) { mask = 512 }

abbrev flagged : Glyph → Glyph
flagged g = record g { mask = 259 }

abbrev wide : ℕ → GlyphPosition
wide advance = record default_position { x_advance = pos advance }

abbrev no_value : Value
no_value = record { x_placement = pos 0; y_placement = pos 0; x_advance = pos 0; y_advance = pos 0 }

abbrev narrower : ℕ → Value
narrower n = record no_value { x_advance = negsuc n }

-- ---- PAIRS OF A TEXT

abbrev seven : Glyphs
seven = glyph 1 0 ∷ mark 8 1 ∷ glyph 3 2 ∷ glyph 2 3 ∷ glyph 3 4 ∷ glyph 1 5 ∷ glyph 3 6 ∷ []

abbrev pair_in_seven : ℕ → Option PairMove
pair_in_seven at = pair_seen [] (lookup_in two_pairs 0) (application_for first_lookup) seven at

-- a 1 and the 3 behind a mark, which is ignored
one_and_three : PairMove
one_and_three = record { second = 2; first_value = narrower 9; second_value = no_value; has_second = false }

at_one : pair_in_seven 0 ≡ Some one_and_three
unfolding pair_seen first_from bisect sight_of_input flag_in ignores next_from any_seen seen_as may_pass one_and_three
at_one = refl

-- a 2 and a 3, which has values of its own
two_and_three : PairMove
two_and_three = record { second = 4; first_value = no_value; second_value = narrower 19; has_second = true }

at_two : pair_in_seven 3 ≡ Some two_and_three
unfolding pair_seen first_from bisect sight_of_input flag_in ignores next_from any_seen seen_as may_pass two_and_three
at_two = refl

-- none at the mark, at a 3, and at the end
at_mark : pair_in_seven 1 ≡ None
unfolding pair_seen first_from bisect sight_of_input flag_in ignores next_from any_seen seen_as may_pass
at_mark = refl

at_three : pair_in_seven 2 ≡ None
unfolding pair_seen first_from bisect sight_of_input flag_in ignores next_from any_seen seen_as may_pass
at_three = refl

at_end : pair_in_seven 6 ≡ None
unfolding pair_seen first_from bisect sight_of_input flag_in ignores next_from any_seen seen_as may_pass
at_end = refl

-- none of a 1 without the feature, and none with a 3 without it, which isn't passed over
without_first : pair_seen [] (lookup_in two_pairs 0) (application_for first_lookup) (other 1 0 ∷ glyph 3 1 ∷ []) 0 ≡ None
unfolding pair_seen first_from bisect sight_of_input flag_in ignores next_from any_seen seen_as may_pass
without_first = refl

without_second : pair_seen [] (lookup_in two_pairs 0) (application_for first_lookup)
    (glyph 1 0 ∷ other 3 1 ∷ glyph 3 2 ∷ []) 0 ≡ None
unfolding pair_seen first_from bisect sight_of_input flag_in ignores next_from any_seen seen_as may_pass
without_second = refl

-- a 2 and any other glyph are a pair of classes whose values are zeros
two_and_five : PairMove
two_and_five = record { second = 1; first_value = no_value; second_value = no_value; has_second = true }

at_five : pair_seen [] (lookup_in two_pairs 0) (application_for first_lookup) (glyph 2 0 ∷ glyph 5 1 ∷ []) 0
    ≡ Some two_and_five
unfolding pair_seen first_from bisect sight_of_input flag_in ignores next_from any_seen seen_as may_pass two_and_five
at_five = refl

-- ---- WHICH HOLD TOGETHER: by values of its own that the second has, and by what moves a glyph along the line

abbrev pair_of : Value → Value → Bool → PairMove
pair_of a b own = record { second = 1; first_value = a; second_value = b; has_second = own }

loose : holds_together LeftToRight (pair_of no_value no_value false) ≡ false
unfolding does_move
loose = refl

by_second : holds_together LeftToRight (pair_of no_value no_value true) ≡ true
unfolding does_move
by_second = refl

by_advance : holds_together LeftToRight (pair_of (narrower 9) no_value false) ≡ true
unfolding does_move
by_advance = refl

not_downwards : holds_together TopToBottom (pair_of (narrower 9) no_value false) ≡ false
unfolding does_move
not_downwards = refl

by_place : holds_together TopToBottom (pair_of no_value (record no_value { x_placement = pos 1 }) false) ≡ true
unfolding does_move
by_place = refl

-- how far it goes: behind the second glyph, and one farther if that has values of its own, but not behind the text
ends_behind : pair_end one_and_three seven ≡ 3
unfolding one_and_three
ends_behind = refl

ends_farther : pair_end two_and_three seven ≡ 6
unfolding two_and_three
ends_farther = refl

ends_last : pair_end two_and_five (glyph 2 0 ∷ glyph 5 1 ∷ []) ≡ 2
unfolding two_and_five
ends_last = refl

-- ---- NUMBERS OF 32 BITS

min_self : (n : ℕ) → min n n ≡ n
min_self n = omega arith

greatest : IsOf32Bits (pos (2 ^ 31 - 1))
greatest = ap pos (min_self (2 ^ 31 - 1))

least : IsOf32Bits (negsuc (2 ^ 31 - 1))
least = ap negsuc (min_self (2 ^ 31 - 1))

too_great : (n : ℕ) → 2 ^ 31 ≤ n → IsOf32Bits (pos n) → ⊥
too_great n le e = absurd (omega (arith, le, ap unsigned_abs e))

too_small : (n : ℕ) → 2 ^ 31 ≤ n → IsOf32Bits (negsuc n) → ⊥
too_small n le e = absurd (omega (arith, le, ap unsigned_abs e))

-- ---- WHAT IS MADE OF THE TEXT

abbrev of_seven : Glyphs → Positions → Buffer
of_seven gs ps = record (new_buffer 9) { glyphs = gs; positions = ps }

abbrev wides : Positions
wides = wide 100 ∷ wide 100 ∷ wide 100 ∷ wide 100 ∷ wide 100 ∷ wide 100 ∷ wide 100 ∷ []

-- the 1s and the 3 behind the 2 are narrower; no break is left but the one before the 2
seven_placed : placed_in (positioned_by [] two_pairs first_lookup (of_seven seven wides)) ≡ record {
  glyphs = glyph 1 0 ∷ flagged (mark 8 1) ∷ flagged (glyph 3 2) ∷ glyph 2 3 ∷ flagged (glyph 3 4) ∷ flagged (glyph 1 5)
      ∷ flagged (glyph 3 6) ∷ [];
  positions = wide 90 ∷ wide 100 ∷ wide 100 ∷ wide 100 ∷ wide 80 ∷ wide 90 ∷ wide 100 ∷ [];
}
unfolding positioned applied_along position_stepped sights_in sight_of_input sight_of_context flag_in ignores tried came_in nth_came first_from bisect one_move pair_move pair_with next_from any_seen seen_as may_pass moved pair_moved value_added with_value does_move flagged_up_to
seven_placed = refl

of_pairs : MovesPairs two_pairs first_lookup
of_pairs = record { types = λ i less. refl; flagless = refl }

wide_numbers : IsOfNumbers (wide 100)
wide_numbers = record { x_advance = refl; y_advance = refl; x_offset = refl; y_offset = refl }

-- and its positions are those of its pieces
seven_taken : TakesPairs [] two_pairs first_lookup (of_seven seven wides)
seven_taken = short_texts [] two_pairs first_lookup (of_seven seven wides) (record {
  few = omega arith;
  drawn = (refl, (refl, (refl, (refl, (refl, (refl, (refl, tt)))))));
  numbers = (wide_numbers, (wide_numbers, (wide_numbers, (wide_numbers, (wide_numbers, (wide_numbers, (wide_numbers, tt)))))));
})
