use Rattle.opentype_layout.specs.Text.{glyph_at}
use Rattle.opentype_layout.specs.Pattern.{fits, seen_by}
use Rattle.opentype_layout.proofs.Sights.{IsSought}
use Rattle.opentype_layout.proofs.pattern.Pattern.previous_further.Given as goal
use Rattle.std.proofs.Common.{◌-◌}

abbrev pub invariant-loop-i : goal.invariant-loop-i
invariant-loop-i l = IsSought (λ i. seen_by l.gdef l.sight (fits l.self) l.k (glyph_at l.glyphs (l.at - 1 - i)))
    l.at l.from l.i
