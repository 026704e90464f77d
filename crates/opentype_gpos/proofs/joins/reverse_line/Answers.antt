use Rattle.std.proofs.Common.{ap, refl, slice_set}
use Rattle.shapers_buffer.specs.declared.buffer.glyph.GlyphPosition.{GlyphPosition}
use Rattle.opentype_gpos.proofs.Turning.{turning_all, turning_end, turning_next, turning_start}
use Rattle.opentype_gpos.proofs.joins.reverse_line.Goals as goal

pub returns-in-None : goal.returns-in-None
returns-in-None c = turning_end _ _ _ _ _ _ _ _ _ _ c.loop.invariant c.loop-test.true
    c.next_in_line-found.ensures.value (cc)

pub returns : goal.returns
returns c = turning_all _ _ _ _ _ _ _ _ _ c.loop.invariant c.loop-test.false

pub loop-preserved : goal.loop-preserved
loop-preserved c = turning_next _ _ _ _ _ _ _ _ _ _ _ _ _ c.loop.invariant c.loop-test.true
    c.in-Some.ensures.value refl c.in-Some.ensures.within refl
    (ap (λ (p : GlyphPosition). slice_set c.loop.positions c.in-Some.to p) c.reversed_on.ensures)

pub loop-init : goal.loop-init
loop-init c = turning_start _ _ _ _ _ c.requires
