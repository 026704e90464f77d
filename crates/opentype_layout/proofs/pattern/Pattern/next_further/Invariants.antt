use Rattle.opentype_layout.specs.Text.{glyph_at}
use Rattle.opentype_layout.specs.Pattern.{fits, seen_by}
use Rattle.opentype_layout.proofs.Sights.{IsSought}
use Rattle.opentype_layout.proofs.pattern.Pattern.next_further.Given as goal
use Rattle.std.proofs.Common.{◌-◌, length}

abbrev pub invariant-loop-glyph : goal.invariant-loop-glyph
invariant-loop-glyph l = IsSought (λ i. seen_by l.gdef l.sight (fits l.self) l.k (glyph_at l.glyphs i))
    (length l.glyphs) l.from l.i

abbrev pub decreases-loop-glyph : goal.decreases-loop-glyph
decreases-loop-glyph l = length l.glyphs - l.i
