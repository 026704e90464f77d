use Rattle.std.proofs.Common.{length}
use Rattle.opentype_layout.specs.Pattern.{fits, next_in}
use Rattle.opentype_layout.proofs.Placed.{ArePlaced}
use Rattle.opentype_layout.proofs.places.find_places.Given as goal

abbrev pub invariant-loop-k : goal.invariant-loop-k
invariant-loop-k l = ArePlaced (next_in l.gdef l.sight (fits l.pattern) l.glyphs) l.count l.fn.from
    (length l.glyphs) l.k l.from l.places.items
