use Rattle.opentype_gsub.specs.Reversed.{lookup_stepped_back}
use Rattle.opentype_gsub.specs.Setting.{setting_of}
use Rattle.opentype_gsub.proofs.Backwards.{IsBack}
use Rattle.opentype_gsub.proofs.reverse.apply_backward.Given as goal

abbrev pub invariant-loop-at : goal.invariant-loop-at
invariant-loop-at l = IsBack (lookup_stepped_back (setting_of l.pass) l.lookup) l.fn.text l.at l.text
