use Rattle.opentype_layout.specs.Looking.{nothing}
use Rattle.opentype_layout.proofs.Lookings.{IsLooking}
use Rattle.opentype_gpos.specs.Coming.{setting_of}
use Rattle.opentype_gpos.specs.Looked.{nth_comes, subtable_looked}
use Rattle.opentype_gpos.proofs.trying.look_among.Given as goal
use Rattle.opentype_face.specs.Lookups.{subtables_in}

abbrev pub invariant-loop-i : goal.invariant-loop-i
invariant-loop-i l =
    IsLooking (nth_comes (setting_of l.pass) l.sights l.lookup l.glyphs l.at)
    (subtable_looked (setting_of l.pass) l.sights l.lookup l.glyphs l.at) (subtables_in l.lookup) (nothing l.at) l.i l.looked
