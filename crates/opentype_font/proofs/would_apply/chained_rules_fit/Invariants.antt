use Rattle.std.proofs.Common.{option_map}
use Rattle.opentype_font.specs.WouldApply.{rule_count, chained_rule_fits}
use Rattle.opentype_font.proofs.Tests.{NoneYet}
use Rattle.opentype_font.proofs.would_apply.chained_rules_fit.Given as goal

abbrev pub invariant-loop-i : goal.invariant-loop-i
invariant-loop-i l = NoneYet (chained_rule_fits l.set (option_map (λ c. c.now) l.classes) l.glyphs l.zero_context) (rule_count l.set) l.i
