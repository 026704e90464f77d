use Rattle.std.proofs.Common.{◌-◌}
use Rattle.opentype_layout.specs.Text.{glyph_at}
use Rattle.opentype_layout.proofs.Lookings.{IsStopped}
use Rattle.opentype_gpos.specs.Nearby.{any_seen}
use Rattle.opentype_gpos.proofs.trying.count_back.Given as goal

abbrev pub invariant-loop-i : goal.invariant-loop-i
invariant-loop-i l = IsStopped (λ i. any_seen l.gdef l.sight (glyph_at l.glyphs (l.at - 1 - i))) l.at 0 l.i
