-- Worked rows: the marks that a font attaches in a text, what it makes of them, and that it does so piece by piece.
use Rattle.std.proofs.Common.{List, None, Option, Some, [], arith, pos, refl, ℕ, ◌++◌, ◌∷◌, ◌≡◌}
use Rattle.shapers_buffer.specs.Buffer.{Buffer, new_buffer}
use Rattle.shapers_buffer.specs.Glyph.{default_glyph, default_position}
use Rattle.shapers_buffer.specs.Glyphs.{Glyph, Glyphs}
use Rattle.shapers_buffer.specs.declared.buffer.glyph.GlyphPosition.{GlyphPosition}
use Rattle.opentype_face.specs.Firsts.{first_from}
use Rattle.opentype_face.specs.Lookups.{lookup_in}
use Rattle.opentype_face.specs.Ranges.{bisect}
use Rattle.opentype_font.specs.Lookups.{application_for, positioned_by}
use Rattle.opentype_gpos.specs.Along.{applied_along, position_stepped, positioned}
use Rattle.opentype_gpos.specs.Coming.{came_in, nth_came, sights_in}
use Rattle.opentype_gpos.specs.Looked.{tried}
use Rattle.opentype_gpos.specs.Making.{moved}
use Rattle.opentype_gpos.specs.Moved.{Positions, flagged_up_to, mark_moved, with_mark_move}
use Rattle.opentype_gpos.specs.Moves.{attached_by, base_move, one_move}
use Rattle.opentype_gpos.specs.Nearby.{any_seen, base_behind, base_glyph_before, carries_on, is_base_at, is_later_multiple}
use Rattle.opentype_gpos.specs.declared.moves.MarkMove.{MarkMove}
use Rattle.opentype_layout.specs.Sight.{flag_in, ignores, may_pass, seen_as, sight_of_context, sight_of_input}
use Rattle.opentype_break_laws.proofs.MarkTexts.{short_marks}
use Rattle.opentype_break_laws.specs.Marks.{AttachesToBases, TakesMarks, mark_at}
use Rattle.opentype_break_laws.specs.PlacedPieces.{placed_in}
use Rattle.opentype_break_laws.specs.TwoSingles.{first_lookup}

-- GPOS with one lookup, of type 4: a mark 9 comes upon a base 1, 50 units to the right and 70 up
abbrev upon_one : List ℕ
upon_one = (0 ∷ 1 ∷ 0 ∷ 0 ∷ 0 ∷ 0 ∷ 0 ∷ 0 ∷ 0 ∷ 10 ∷ 0 ∷ 1 ∷ 0 ∷ 4 ∷ []) ++ ((0 ∷ 4 ∷ 0 ∷ 0 ∷ 0 ∷ 1 ∷ 0 ∷ 8 ∷ [])
    ++ ((0 ∷ 1 ∷ 0 ∷ 12 ∷ 0 ∷ 18 ∷ 0 ∷ 1 ∷ 0 ∷ 24 ∷ 0 ∷ 36 ∷ []) ++ ((0 ∷ 1 ∷ 0 ∷ 1 ∷ 0 ∷ 9 ∷ 0 ∷ 1 ∷ 0 ∷ 1 ∷ 0 ∷ 1 ∷ [])
    ++ ((0 ∷ 1 ∷ 0 ∷ 0 ∷ 0 ∷ 6 ∷ 0 ∷ 1 ∷ 0 ∷ 0 ∷ 0 ∷ 0 ∷ []) ++ (0 ∷ 1 ∷ 0 ∷ 4 ∷ 0 ∷ 1 ∷ 0 ∷ 50 ∷ 0 ∷ 70 ∷ [])))))

abbrev glyph : ℕ → ℕ → Glyph
glyph number c = record default_glyph { glyph_id = number; cluster = c; mask = 256 }

abbrev mark : ℕ → ℕ → Glyph
mark number c = record (glyph number c) { glyph_props = record { 0 = 8 } }

abbrev no_break : Glyph → Glyph
no_break g = record g { mask = 259 }

-- a base, two marks, and another base
abbrev four : Glyphs
four = glyph 1 0 ∷ mark 8 1 ∷ mark 9 2 ∷ glyph 1 3 ∷ []

abbrev mark_in_four : ℕ → Option MarkMove
mark_in_four at = mark_at [] (lookup_in upon_one 0) (application_for first_lookup) four at

-- the 9 is attached to the nearest base, behind a mark that isn't; none is to a base, and none where there is no base
upon_it : MarkMove
upon_it = record { to = 0; x = pos 50; y = pos 70 }

at_nine : mark_in_four 2 ≡ Some upon_it
unfolding mark_at first_from bisect sight_of_input flag_in ignores any_seen seen_as may_pass upon_it
at_nine = refl

at_eight : mark_in_four 1 ≡ None
unfolding mark_at first_from bisect sight_of_input flag_in ignores any_seen seen_as may_pass
at_eight = refl

at_base : mark_in_four 3 ≡ None
unfolding mark_at first_from bisect sight_of_input flag_in ignores any_seen seen_as may_pass
at_base = refl

without_base : mark_at [] (lookup_in upon_one 0) (application_for first_lookup) (mark 9 0 ∷ []) 0 ≡ None
unfolding mark_at first_from bisect sight_of_input flag_in ignores any_seen seen_as may_pass
without_base = refl

abbrev of_four : Glyphs → Positions → Buffer
of_four gs ps = record (new_buffer 9) { glyphs = gs; positions = ps }

abbrev wide : ℕ → GlyphPosition
wide advance = record default_position { x_advance = pos advance }

abbrev wides : Positions
wides = wide 100 ∷ wide 0 ∷ wide 0 ∷ wide 100 ∷ []

-- two places before it; no break is left but the one before the other base
four_placed : placed_in (positioned_by [] upon_one first_lookup (of_four four wides)) ≡ record {
  glyphs = glyph 1 0 ∷ no_break (mark 8 1) ∷ no_break (mark 9 2) ∷ glyph 1 3 ∷ [];
  positions = wide 100 ∷ wide 0 ∷ record (wide 0) { x_offset = pos 50; y_offset = pos 70; var = 131070 } ∷ wide 100 ∷ [];
}
unfolding positioned applied_along position_stepped sights_in sight_of_input sight_of_context flag_in ignores tried came_in nth_came first_from bisect one_move base_move base_glyph_before base_behind is_base_at is_later_multiple carries_on any_seen seen_as may_pass attached_by moved mark_moved with_mark_move flagged_up_to
four_placed = refl

attaches : AttachesToBases upon_one first_lookup
attaches = record { types = λ i less. refl; flagless = refl }

four_taken : TakesMarks [] upon_one first_lookup (of_four four wides)
four_taken = short_marks [] upon_one first_lookup (of_four four wides) (refl, (refl, (refl, (refl, tt)))) (omega arith)
