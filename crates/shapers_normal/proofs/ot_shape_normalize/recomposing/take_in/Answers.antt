-- The starter is written before the gap.
use Rattle.std.proofs.Common.{◌∙◌, ◌+◌, ◌≤◌, length, get_or, set, sym, ap, arith}
use Rattle.shapers_buffer.specs.Glyphs.{Glyphs}
use Rattle.shapers_buffer.specs.Glyph.{default_glyph}
use Rattle.shapers_normal.specs.Properties.{as_character}
use Rattle.shapers_normal.specs.Recomposition.{StarterWalk}
use Rattle.shapers_normal.proofs.Gaps.{apart-set, get_or-apart}
use Rattle.shapers_normal.proofs.ot_shape_normalize.recomposing.take_in.Goals as goal

pub returns-clause-next : goal.returns-clause-next
returns-clause-next g c =
    let p = c.args.place in
    let s = p.starter in
    let context = g.C.NormalizeContext.context c.args.context.now in
    let gs = c.merge_apart.new.glyphs in
    let drawn = c.args.drawn in
    let long : p.to ≤ length gs = omega (arith, c.merge_apart.auto.glyphs, c.requires.inside, c.requires.gap) in
    let push_within = λ (xs : Glyphs). let w : StarterWalk =
    record { starter = s; place = p.to; glyphs = xs } in w in
    ap push_within
    (apart-set p.to (p.from + 1) s gs c.set_character.new.glyph c.requires.starter (omega (arith, c.requires.gap)) long
    ∙ ap (set _ s) (c.set_character.ensures
    ∙ ap (as_character context drawn.0 drawn.1.0)
    (sym (get_or-apart p.to (p.from + 1) s gs c.requires.starter long)))
    ∙ ap (λ xs. set xs s (as_character context drawn.0 drawn.1.0 (get_or xs s default_glyph))) c.merge_apart.ensures)
