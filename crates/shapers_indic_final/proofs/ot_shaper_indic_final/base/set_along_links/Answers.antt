-- One glyph more.
use Rattle.std.proofs.Common.{sym, ◌∙◌, subst, arith}
use Rattle.shapers_buffer.specs.Glyph.{default_glyph}
use Rattle.shapers_indic_final.proofs.FinalLinks.{Linking, linking_end}
use Rattle.shapers_indic_final.proofs.ot_shaper_indic_final.base.set_along_links.Goals as goal

pub loop-i-preserved-then-halant : goal.loop-i-preserved-then-halant
loop-i-preserved-then-halant c =
    let l = c.loop-i in
    let old = c.args.glyphs.now in
    search (
      arith,
      linking_end c.args.base l.i l.last default_glyph old l.glyphs
          (omega arith) (sym c.is_joiner.ensures ∙ c.if-is_joiner.false)
          (subst (λ h. Linking c.args.base l.i h l.last old l.glyphs) c.if-halant.true l.invariant),
    )
