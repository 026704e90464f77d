-- What the placing of marks without GPOS keeps of a text.
use Rattle.std.proofs.Common.{true, ℕ, zero, suc, ◌+◌, ◌-◌, ◌≡◌, length, Option, None, Some, refl, ◌∙◌}
use Rattle.std.proofs.lemmas.List.{length-set}
use Rattle.shapers_buffer.specs.Buffer.{Buffer}
use Rattle.shapers_buffer.specs.Glyphs.{Glyph, Glyphs}
use Rattle.shapers_buffer.specs.declared.buffer.level.Direction.{Direction}
use Rattle.opentype_gpos.specs.Fallback.{MarkFont, marks_around, marks_placed, marks_stepped, marks_without_box, placed_around}
use Rattle.opentype_gpos.specs.Laws.{PlacesAlone}
use Rattle.opentype_gpos.specs.Moved.{Positions}
use Rattle.opentype_gpos.specs.declared.fallback.Around.{Around}
use Rattle.opentype_gpos.specs.declared.mark_boxes.GlyphBox.{GlyphBox}
use Rattle.opentype_gpos.proofs.Keeping.{Same, flag}
use Rattle.opentype_gpos.proofs.Preserved.{Stays, choose_step, walk_keeps}

around_length : (n : ℕ) (f : MarkFont) (gs : Glyphs) (base : Glyph) (box : GlyphBox) (i : ℕ) (a : Around) (ps : Positions) →
    length (marks_around n f gs base box i a ps) ≡ length ps
unfolding marks_around
around_length zero f gs base box i a ps = refl
around_length (suc n) f gs base box i a ps = around_length n f gs base box (i + 1) _ _ ∙ length-set ps i _

without_length : (n : ℕ) (d : Direction) (gs : Glyphs) (i : ℕ) (ps : Positions) →
    length (marks_without_box n d gs i ps) ≡ length ps
unfolding marks_without_box
without_length zero d gs i ps = refl
without_length (suc n) d gs i ps = without_length n d gs (i + 1) _ ∙ length-set ps i _

placed_length : (f : MarkFont) (gs : Glyphs) (base end : ℕ) (ps : Positions) (o : Option GlyphBox) →
    length (placed_around f gs base end ps o) ≡ length ps
unfolding placed_around
placed_length f gs base end ps None = without_length (end - (base + 1)) f.direction gs (base + 1) ps
placed_length f gs base end ps (Some box) = around_length (end - (base + 1)) f gs _ _ (base + 1) _ ps

step_keeps : (f : MarkFont) (b : Buffer) (gs : Glyphs) (ps : Positions) (at : ℕ) → Same b gs ps →
    Stays (Same b) (marks_stepped f gs ps at)
unfolding marks_stepped
step_keeps f b gs ps at h = choose_step _ (Same b) _ _
    (flag true _ _ gs ∙ h.0, placed_length f gs _ _ ps _ ∙ h.1) h

pub marks_keep : (f : MarkFont) (b : Buffer) → PlacesAlone b (marks_placed f b)
unfolding marks_placed
marks_keep f b =
    let k = walk_keeps (length b.glyphs) (Same b) (marks_stepped f) (λ gs ps at g. step_keeps f b gs ps at g)
    b.glyphs b.positions 0 (refl, refl) in
    record { others = refl; glyphs = k.0; positions = k.1 }
