use Rattle.std.proofs.Common.{arith}
use Rattle.opentype_gsub.proofs.Untouched.{buffer_left}
use Rattle.opentype_gsub.proofs.substitute.substitute.Goals as goal

pub returns-then-first-len-clause-ok : goal.returns-then-first-len-clause-ok
returns-then-first-len-clause-ok c = buffer_left _ _ _ _ c.lookup-table.result c.first_place-first.result c.lookup-table.ensures
    (rw c.glyphs.ensures at c.first_place-first.ensures.left) (rw c.glyphs.ensures at c.first_place-first.ensures.within)
    (omega arith)
