-- A buffer is made of its lists and its settings.
use Rattle.std.proofs.Common.{◌≡◌, List, ℕ, refl}
use Rattle.shapers_buffer.specs.declared.buffer.glyph.GlyphPosition.{GlyphPosition}
use Rattle.shapers_buffer.specs.Buffer.{Buffer}
use Rattle.shapers_buffer.specs.Glyphs.{Glyphs}

-- with equal lists it is the same
pub with_equal_lists :
    (b : Buffer) {gs : Glyphs} {ps : List GlyphPosition} {before after places : List ℕ} →
    gs ≡ b.glyphs → ps ≡ b.positions → before ≡ b.before → after ≡ b.after → places ≡ b.places →
    record b {
      glyphs = gs;
      positions = ps;
      before = before;
      after = after;
      places = places;
    } ≡ b
with_equal_lists b gs ps before after places = rw (gs, ps, before, after, places) refl
