use Rattle.std.proofs.Common.{◌-◌}
use Rattle.opentype_layout.specs.Pattern.{fits, seen_by}
use Rattle.opentype_layout.specs.Text.{glyph_at}
use Rattle.opentype_layout.proofs.Lookings.{IsStopped}
use Rattle.opentype_layout.proofs.looking.stop_back.Given as goal

abbrev pub invariant-loop-i : goal.invariant-loop-i
invariant-loop-i l = IsStopped (λ i. seen_by l.gdef l.sight (fits l.pattern) l.k (glyph_at l.glyphs (l.at - 1 - i)))
    l.at l.from l.i
