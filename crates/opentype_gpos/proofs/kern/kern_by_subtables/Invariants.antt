use Rattle.opentype_gpos.specs.Kerned.{kerned_by}
use Rattle.opentype_gpos.proofs.Kerning.{IsKerning}
use Rattle.opentype_gpos.proofs.kern.kern_by_subtables.Given as goal

abbrev pub invariant-loop : goal.invariant-loop
invariant-loop l = IsKerning (kerned_by l.mask l.direction) l.count l.fn.bytes
    (record { glyphs = l.fn.glyphs; positions = l.fn.positions }) l.counter l.bytes l.glyphs l.positions
