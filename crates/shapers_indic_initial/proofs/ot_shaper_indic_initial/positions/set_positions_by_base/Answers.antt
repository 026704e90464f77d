-- All glyphs up to the base are done.
use Rattle.std.proofs.Common.{◌∙◌, arith}
use Rattle.std.proofs.lemmas.List.{set-get_or}
use Rattle.shapers_buffer.specs.Glyph.{default_glyph}
use Rattle.shapers_indic_initial.proofs.Positions.{based_all}
use Rattle.shapers_indic_initial.proofs.ot_shaper_indic_initial.positions.set_positions_by_base.Goals as goal

pub returns-then-place-base : goal.returns-then-place-base
returns-then-place-base c =
    let l = c.loop-place in
    set-get_or l.glyphs l.place default_glyph
    ∙ based_all c.args.base.place c.args.base.has_reph l.place l.glyphs c.args.glyphs.now
    (λ inside. omega (arith, c.if-place-base.true)) l.invariant

pub returns : goal.returns
returns = search (arith, based_all)
