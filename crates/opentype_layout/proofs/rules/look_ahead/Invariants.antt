use Rattle.opentype_layout.specs.Pattern.{fits, next_in}
use Rattle.opentype_layout.proofs.Reached.{IsReached}
use Rattle.opentype_layout.proofs.rules.look_ahead.Given as goal

abbrev pub invariant-loop-k : goal.invariant-loop-k
invariant-loop-k l = IsReached (next_in l.gdef l.sight (fits l.pattern) l.glyphs) l.count l.fn.from l.k l.from
