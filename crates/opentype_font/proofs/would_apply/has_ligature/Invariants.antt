use Rattle.opentype_font.specs.WouldApply.{rule_count, ligature_fits}
use Rattle.opentype_font.proofs.Tests.{NoneYet}
use Rattle.opentype_font.proofs.would_apply.has_ligature.Given as goal

abbrev pub invariant-loop-i : goal.invariant-loop-i
invariant-loop-i l = NoneYet (ligature_fits l.set l.glyphs) (rule_count l.set) l.i
