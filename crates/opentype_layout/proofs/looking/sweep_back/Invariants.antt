use Rattle.opentype_layout.specs.Pattern.{fits, previous_in}
use Rattle.opentype_layout.specs.Looking.{stop_before}
use Rattle.opentype_layout.proofs.Lookings.{IsSwept}
use Rattle.opentype_layout.proofs.looking.sweep_back.Given as goal

abbrev pub invariant-loop-found : goal.invariant-loop-found
invariant-loop-found l = IsSwept (previous_in l.gdef l.sight (fits l.pattern) l.glyphs l.at) (stop_before l.gdef l.sight (fits l.pattern) l.glyphs l.at) l.count 0 l.found l.to
