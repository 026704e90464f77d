use Rattle.std.proofs.Common.{◌≡◌, ◌-◌}
use Rattle.opentype_face.specs.Lookups.{subtables_in}
use Rattle.opentype_gsub.specs.Came.{nth_came}
use Rattle.opentype_gsub.specs.Setting.{setting_of}
use Rattle.opentype_gsub.specs.declared.pass.Sights.{Sights}
use Rattle.opentype_gsub.proofs.Machines.{IsComing}
use Rattle.opentype_gsub.proofs.plain.put_among.Given as goal

abbrev pub invariant-loop-from : goal.invariant-loop-from
invariant-loop-from l = (sights : Sights) → sights.input ≡ l.sight →
    IsComing (nth_came (setting_of l.pass) sights l.lookup l.at) (subtables_in l.lookup) l.from l.fn.text l.fn.lookups l.text l.lookups

abbrev pub decreases-loop-from : goal.decreases-loop-from
decreases-loop-from l = l.count - l.from
