use Rattle.opentype_layout.specs.Pattern.{fits, previous_in}
use Rattle.opentype_layout.proofs.Reached.{IsReached}
use Rattle.opentype_layout.proofs.rules.look_back.Given as goal

abbrev pub invariant-loop-k : goal.invariant-loop-k
invariant-loop-k l = IsReached (previous_in l.gdef l.sight (fits l.pattern) l.glyphs l.at) l.count 0 l.k l.from
