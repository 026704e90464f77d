-- Marks behind a base, as far as they are placed.
use Rattle.std.proofs.Common.{ℕ, ℤ, suc, ◌+◌, ◌-◌, ◌<◌, ◌≤◌, ◌≡◌, length, slice_set, refl, sym, ap, ◌∙◌, arith}
use Rattle.std.proofs.lemmas.List.{length-set}
use Rattle.shapers_buffer.specs.Glyphs.{Glyph, Glyphs}
use Rattle.shapers_buffer.specs.declared.buffer.glyph.GlyphPosition.{GlyphPosition}
use Rattle.shapers_buffer.specs.declared.buffer.level.Direction.{Direction}
use Rattle.opentype_layout.specs.Text.{glyph_at}
use Rattle.opentype_gpos.specs.Fallback.{MarkFont, brought_back, glyph_around, marks_around, marks_without_box, upon_box, with_offsets, without_box}
use Rattle.opentype_gpos.specs.MarkBoxes.{across_place, upright_place}
use Rattle.opentype_gpos.specs.Moved.{Positions, position_at}
use Rattle.opentype_gpos.specs.declared.fallback.Around.{Around}
use Rattle.opentype_gpos.specs.declared.mark_boxes.GlyphBox.{GlyphBox}
use Rattle.opentype_gpos.specs.declared.mark_boxes.Height.{Height}

pub upon_is : (d : Direction) (gap class : ℕ) (a : Around) (p : GlyphPosition) (box : GlyphBox) (x : ℤ) (height : Height)
    (across up : ℤ) (off placed : GlyphPosition) (next : Around) → x ≡ across_place d class a.rest box →
    height ≡ upright_place gap class a.rest box → across ≡ x → up ≡ height.y → off ≡ with_offsets across up p → placed ≡ brought_back a off →
    next ≡ record a { rest = height.rest } → (placed, next) ≡ upon_box d gap class a p box
unfolding upon_box
upon_is d gap class a p box x height across up off placed next at_x at_height is_x is_y at_off at_placed at_next =
    rw (at_placed, at_next, at_off, is_x, is_y, at_x, at_height) refl

-- ---- marks with boxes
none : (f : MarkFont) (gs : Glyphs) (base : Glyph) (box : GlyphBox) (i : ℕ) (a : Around) (ps : Positions) →
    marks_around 0 f gs base box i a ps ≡ ps
unfolding marks_around
none f gs base box i a ps = refl

one : (n : ℕ) (f : MarkFont) (gs : Glyphs) (base : Glyph) (box : GlyphBox) (i : ℕ) (a next : Around) (ps moved : Positions) →
    moved ≡ slice_set ps i (glyph_around f base box (glyph_at gs i) (position_at ps i) a).0 →
    next ≡ (glyph_around f base box (glyph_at gs i) (position_at ps i) a).1 →
    marks_around (suc n) f gs base box i a ps ≡ marks_around n f gs base box (i + 1) next moved
unfolding marks_around
one n f gs base box i a next ps moved at_moved at_next = rw (at_moved, at_next) refl

pub record IsMarking (f : MarkFont) (gs : Glyphs) (base : Glyph) (box : GlyphBox) (start end : ℕ) (first : Around) (old : Positions)
    (i : ℕ) (a : Around) (ps : Positions) : Type 0 where
  pub rest : marks_around (end - start) f gs base box start first old ≡ marks_around (end - i) f gs base box i a ps
  pub paired : length ps ≡ length gs

pub marking_next : (f : MarkFont) (gs : Glyphs) (base : Glyph) (box : GlyphBox) (start end : ℕ) (first : Around) (old : Positions)
    (i : ℕ) (a next : Around) (ps moved : Positions) → IsMarking f gs base box start end first old i a ps → i < end →
    moved ≡ slice_set ps i (glyph_around f base box (glyph_at gs i) (position_at ps i) a).0 →
    next ≡ (glyph_around f base box (glyph_at gs i) (position_at ps i) a).1 →
    IsMarking f gs base box start end first old (i + 1) next moved
marking_next f gs base box start end first old i a next ps moved m lt at_moved at_next =
    let n : end - i ≡ suc (end - (i + 1)) = omega arith in
    record {
      rest = rw n at m.rest ∙ one (end - (i + 1)) f gs base box i a next ps moved at_moved at_next;
      paired = ap length at_moved ∙ length-set ps i _ ∙ m.paired;
    }

pub marking_all : (f : MarkFont) (gs : Glyphs) (base : Glyph) (box : GlyphBox) (start end : ℕ) (first : Around) (old : Positions)
    (i : ℕ) (a : Around) (ps : Positions) → IsMarking f gs base box start end first old i a ps → end ≤ i →
    ps ≡ marks_around (end - start) f gs base box start first old
marking_all f gs base box start end first old i a ps m le =
    let n : end - i ≡ 0 = omega arith in sym (rw n at m.rest ∙ none f gs base box i a ps)

-- ---- and without
no_mark : (d : Direction) (gs : Glyphs) (i : ℕ) (ps : Positions) → marks_without_box 0 d gs i ps ≡ ps
unfolding marks_without_box
no_mark d gs i ps = refl

one_mark : (n : ℕ) (d : Direction) (gs : Glyphs) (i : ℕ) (ps moved : Positions) →
    moved ≡ slice_set ps i (without_box d (glyph_at gs i) (position_at ps i)) →
    marks_without_box (suc n) d gs i ps ≡ marks_without_box n d gs (i + 1) moved
unfolding marks_without_box
one_mark n d gs i ps moved at_moved = rw at_moved refl

pub record IsZeroing (d : Direction) (gs : Glyphs) (start end : ℕ) (old : Positions) (i : ℕ) (ps : Positions) : Type 0 where
  pub rest : marks_without_box (end - start) d gs start old ≡ marks_without_box (end - i) d gs i ps
  pub paired : length ps ≡ length gs

pub zeroing_next : (d : Direction) (gs : Glyphs) (start end : ℕ) (old : Positions) (i : ℕ) (ps moved : Positions) →
    IsZeroing d gs start end old i ps → i < end →
    moved ≡ slice_set ps i (without_box d (glyph_at gs i) (position_at ps i)) →
    IsZeroing d gs start end old (i + 1) moved
zeroing_next d gs start end old i ps moved z lt at_moved =
    let n : end - i ≡ suc (end - (i + 1)) = omega arith in
    record {
      rest = rw n at z.rest ∙ one_mark (end - (i + 1)) d gs i ps moved at_moved;
      paired = ap length at_moved ∙ length-set ps i _ ∙ z.paired;
    }

pub zeroing_all : (d : Direction) (gs : Glyphs) (start end : ℕ) (old : Positions) (i : ℕ) (ps : Positions) →
    IsZeroing d gs start end old i ps → end ≤ i → ps ≡ marks_without_box (end - start) d gs start old
zeroing_all d gs start end old i ps z le =
    let n : end - i ≡ 0 = omega arith in sym (rw n at z.rest ∙ no_mark d gs i ps)
