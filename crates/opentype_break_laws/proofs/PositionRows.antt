-- Worked rows: what a font of single adjustments makes of positions, and where it moves nothing.
use Rattle.std.specs.Prelude.{ℕ, zero, suc, pos, ◌≤◌, ◌<◌, ◌≡◌, true, [], ◌∷◌, None, refl}
use Rattle.std.proofs.Common.{arith, inl, inr}
use Rattle.shapers_buffer.specs.Buffer.{new_buffer}
use Rattle.shapers_buffer.specs.Glyph.{default_glyph, default_position}
use Rattle.shapers_buffer.specs.Glyphs.{Glyph, Glyphs}
use Rattle.shapers_buffer.specs.declared.buffer.glyph.GlyphPosition.{GlyphPosition}
use Rattle.opentype_face.specs.Firsts.{first_from}
use Rattle.opentype_face.specs.Lookups.{lookup_in}
use Rattle.opentype_face.specs.Ranges.{bisect}
use Rattle.opentype_layout.specs.Sight.{flag_in, ignores, sight_of_context, sight_of_input}
use Rattle.opentype_layout.specs.Starts.{starting, starts_at}
use Rattle.opentype_gpos.specs.Along.{applied_along, position_stepped, positioned}
use Rattle.opentype_gpos.specs.Coming.{came_in, nth_came, sights_in}
use Rattle.opentype_gpos.specs.Looked.{tried}
use Rattle.opentype_gpos.specs.Making.{moved}
use Rattle.opentype_gpos.specs.Moved.{value_added, with_value}
use Rattle.opentype_gpos.specs.Moves.{one_move, single_move}
use Rattle.opentype_font.specs.Lookups.{positioned_by}
use Rattle.opentype_break_laws.specs.FontPositions.{MovesNothing}
use Rattle.opentype_break_laws.specs.PlacedPieces.{placed_in}
use Rattle.opentype_break_laws.specs.TwoAdjustments.{two_adjustments}
use Rattle.opentype_break_laws.specs.TwoSingles.{first_lookup}

-- a glyph by its number and mask, and a position by its advance and offsets
abbrev glyph : ℕ → ℕ → Glyph
glyph number mask = record default_glyph { glyph_id = number; mask = mask }

abbrev place : ℕ → ℕ → ℕ → GlyphPosition
place advance x y = record default_position { x_advance = pos advance; x_offset = pos x; y_offset = pos y }

abbrev five_glyphs : Glyphs
five_glyphs = glyph 5 256 ∷ glyph 6 257 ∷ glyph 9 768 ∷ glyph 5 512 ∷ glyph 7 256 ∷ []

-- By format 1 the 5 is narrower, and by format 2 the 6 and the 9 are moved, each by its own value; not so the 5 without
-- bit 8, and a 7. No glyph is flagged, and a flag stays.
five_placed : placed_in (positioned_by [] two_adjustments first_lookup (record (new_buffer 9) {
  glyphs = five_glyphs;
  positions = place 100 0 0 ∷ place 100 0 0 ∷ place 100 0 0 ∷ place 100 0 0 ∷ place 100 0 0 ∷ [];
})) ≡ record {
  glyphs = five_glyphs;
  positions = place 90 0 0 ∷ place 100 3 0 ∷ place 100 0 4 ∷ place 100 0 0 ∷ place 100 0 0 ∷ [];
}
unfolding positioned applied_along position_stepped sights_in sight_of_input sight_of_context flag_in ignores tried came_in nth_came first_from bisect one_move single_move moved value_added with_value
five_placed = refl

-- so it moves nothing in a text of a 7, and of a 5 without bit 8
none_at_seven : (i : ℕ) → 0 ≤ i → i < 2 → starting true (lookup_in two_adjustments 0) 7 i ≡ None
unfolding starting starts_at bisect
none_at_seven zero low high = refl
none_at_seven (suc zero) low high = refl
none_at_seven (suc (suc i)) low high = absurd (omega (arith, high))

nothing_moved : MovesNothing two_adjustments first_lookup
    (record (new_buffer 9) { glyphs = glyph 7 256 ∷ glyph 5 512 ∷ [] })
nothing_moved = record {
  flagless = refl;
  passed = (inr (record { none = none_at_seven }), (inl refl, tt));
}
