use Rattle.std.proofs.Common.{length}
use Rattle.opentype_gpos.specs.Kerned.{kern_stepped}
use Rattle.opentype_gpos.proofs.Walks.{IsWalked}
use Rattle.opentype_gpos.proofs.kern.move_pairs.Given as goal

abbrev pub invariant-loop : goal.invariant-loop
invariant-loop l = IsWalked (kern_stepped l.bytes l.mask l.vertical) (length l.fn.glyphs)
    l.fn.glyphs l.fn.positions l.counter l.glyphs l.positions l.at
