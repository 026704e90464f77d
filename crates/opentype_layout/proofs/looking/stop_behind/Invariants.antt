use Rattle.std.proofs.Common.{◌-◌, length}
use Rattle.opentype_layout.specs.Pattern.{fits, seen_by}
use Rattle.opentype_layout.specs.Text.{glyph_at}
use Rattle.opentype_layout.proofs.Lookings.{IsStopped}
use Rattle.opentype_layout.proofs.looking.stop_behind.Given as goal

abbrev pub invariant-loop-glyph : goal.invariant-loop-glyph
invariant-loop-glyph l = IsStopped (λ i. seen_by l.gdef l.sight (fits l.pattern) l.k (glyph_at l.glyphs i))
    (length l.glyphs) l.from l.i

abbrev pub decreases-loop-glyph : goal.decreases-loop-glyph
decreases-loop-glyph l = length l.glyphs - l.i
