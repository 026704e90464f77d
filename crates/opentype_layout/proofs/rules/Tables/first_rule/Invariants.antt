use Rattle.opentype_layout.specs.Rules.{kind, nth_in}
use Rattle.opentype_face.proofs.Foremost.{IsFirst}
use Rattle.opentype_face.specs.Lookups.{rule_count_in}
use Rattle.opentype_layout.proofs.rules.Tables.first_rule.Given as goal

abbrev pub invariant-loop-i : goal.invariant-loop-i
invariant-loop-i l = IsFirst (nth_in l.gdef l.input l.context (kind l.self) l.set l.glyphs l.at) (rule_count_in l.set) l.i
