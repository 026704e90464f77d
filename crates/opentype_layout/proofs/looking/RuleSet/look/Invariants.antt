use Rattle.std.proofs.Common.{is_some}
use Rattle.opentype_layout.specs.Rules.{found_at}
use Rattle.opentype_layout.specs.Looking.{nothing, rule_list, rule_looked}
use Rattle.opentype_layout.proofs.Lookings.{IsLooking}
use Rattle.opentype_layout.proofs.looking.RuleSet.look.Given as goal

abbrev pub invariant-loop-i : goal.invariant-loop-i
invariant-loop-i l =
    IsLooking (λ i. is_some (found_at l.gdef l.sight l.context l.glyphs l.at ((rule_list l.self).rule i)))
    (λ i. rule_looked l.gdef l.sight l.context l.fn.old_len l.glyphs l.at ((rule_list l.self).rule i)) (rule_list l.self).count
    (nothing l.at) l.i l.looked
