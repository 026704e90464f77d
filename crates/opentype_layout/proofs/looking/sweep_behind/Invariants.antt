use Rattle.opentype_layout.specs.Pattern.{fits, next_in}
use Rattle.opentype_layout.specs.Looking.{stop_in}
use Rattle.opentype_layout.proofs.Lookings.{IsSwept}
use Rattle.opentype_layout.proofs.looking.sweep_behind.Given as goal

abbrev pub invariant-loop-found : goal.invariant-loop-found
invariant-loop-found l = IsSwept (next_in l.gdef l.sight (fits l.pattern) l.glyphs) (stop_in l.gdef l.sight (fits l.pattern) l.glyphs) l.count l.from l.found l.to
