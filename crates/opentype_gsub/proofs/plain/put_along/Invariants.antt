use Rattle.std.proofs.Common.{◌-◌, length}
use Rattle.opentype_gsub.specs.Along.{lookup_stepped}
use Rattle.opentype_gsub.specs.Setting.{setting_of}
use Rattle.opentype_gsub.proofs.Walks.{IsNear}
use Rattle.opentype_gsub.proofs.plain.put_along.Given as goal

abbrev pub invariant-loop-steps : goal.invariant-loop-steps
invariant-loop-steps l = IsNear (lookup_stepped (setting_of l.pass) l.lookup) (length l.fn.text - l.first) l.fn.text l.first
    l.fn.lookups l.steps l.text l.at l.lookups l.place

abbrev pub decreases-loop-steps : goal.decreases-loop-steps
decreases-loop-steps l = l.steps
