use Rattle.std.proofs.Common.{length}
use Rattle.opentype_layout.specs.Text.{glyph_at}
use Rattle.opentype_layout.proofs.Lookings.{IsStopped}
use Rattle.opentype_gpos.specs.Nearby.{any_seen}
use Rattle.opentype_gpos.proofs.trying.stop_behind.Given as goal

abbrev pub invariant-loop-i : goal.invariant-loop-i
invariant-loop-i l = IsStopped (λ i. any_seen l.gdef l.sight (glyph_at l.glyphs i)) (length l.glyphs) l.from l.i
