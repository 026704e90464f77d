use Rattle.std.proofs.Common.{◌-◌}
use Rattle.opentype_layout.specs.Ligatures.{base_seen}
use Rattle.opentype_layout.specs.Text.{glyph_at}
use Rattle.opentype_layout.proofs.Sights.{IsSought}
use Rattle.opentype_layout.proofs.input.find_base.Given as goal

abbrev pub invariant-loop-i : goal.invariant-loop-i
invariant-loop-i l = IsSought (λ i. base_seen l.number (glyph_at l.glyphs (l.at - 1 - i)).lig_props) l.at 0 l.i
