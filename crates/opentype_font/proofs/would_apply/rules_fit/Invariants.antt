use Rattle.std.proofs.Common.{option_map}
use Rattle.opentype_font.specs.WouldApply.{rule_count, rule_fits}
use Rattle.opentype_font.proofs.Tests.{NoneYet}
use Rattle.opentype_font.proofs.would_apply.rules_fit.Given as goal

abbrev pub invariant-loop-i : goal.invariant-loop-i
invariant-loop-i l = NoneYet (rule_fits l.set (option_map (λ c. c.now) l.classes) l.glyphs) (rule_count l.set) l.i
