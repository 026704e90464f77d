use Rattle.std.proofs.Common.{◌-◌}
use Rattle.opentype_face.specs.Lookups.{subtables_in}
use Rattle.opentype_gpos.specs.Coming.{setting_of}
use Rattle.opentype_gpos.proofs.Unbegun.{IsTried}
use Rattle.opentype_gpos.proofs.coming.come_among.Given as goal

abbrev pub invariant-loop-i : goal.invariant-loop-i
invariant-loop-i l = IsTried (setting_of l.pass) l.sights l.lookup l.glyphs l.at l.from

abbrev pub decreases-loop-i : goal.decreases-loop-i
decreases-loop-i l = subtables_in l.lookup - l.from
