use Rattle.std.proofs.Common.{is_some}
use Rattle.opentype_face.specs.Lookups.{subtables_in}
use Rattle.opentype_layout.specs.Looking.{nothing}
use Rattle.opentype_gsub.specs.Reversed.{nth_looked_back, nth_reversed}
use Rattle.opentype_layout.proofs.Lookings.{IsLooking}
use Rattle.opentype_gsub.proofs.reverse.look_among.Given as goal

abbrev pub invariant-loop-i : goal.invariant-loop-i
invariant-loop-i l =
    IsLooking (λ i. is_some (nth_reversed l.gdef l.sights l.lookup l.glyphs l.at i))
    (nth_looked_back l.gdef l.sights l.lookup l.glyphs l.at) (subtables_in l.lookup) (nothing l.at) l.i l.looked
