-- One place more, back.
use Rattle.std.proofs.Common.{◌-◌, sym, ◌∙◌, subst, arith}
use Rattle.shapers_buffer.specs.Glyph.{default_glyph}
use Rattle.shapers_indic_initial.proofs.Bases.{Searching, base_there, below_there, found, searching_next, stopped}
use Rattle.shapers_indic_initial.proofs.ot_shaper_indic_initial.base.last_base.Goals as goal

pub loop-place-init : goal.loop-place-init
loop-place-init = search arith

pub returns-then-stops_search : goal.returns-then-stops_search
returns-then-stops_search c =
    let l = c.loop-place in
    stopped c.args.search c.args.lo (l.place - 1) l.below c.args.glyphs.now (omega arith)
    (search arith) (search arith)

pub returns-then-is_base : goal.returns-then-is_base
returns-then-is_base c =
    let l = c.loop-place in
    let gs = c.args.glyphs.now in
    let s = subst (λ k. Searching c.args.search c.args.lo k l.below gs) (omega arith) l.invariant in
    found c.args.search c.args.lo (l.place - 1) l.below gs (omega arith) s (search arith) (search (arith, base_there))

pub loop-place-preserved-then-is_below : goal.loop-place-preserved-then-is_below
loop-place-preserved-then-is_below c =
    let l = c.loop-place in
    let gs = c.args.glyphs.now in
    let s = subst (λ k. Searching c.args.search c.args.lo k l.below gs) (omega arith) l.invariant in
    let here = below_there c.args.search gs (l.place - 1) default_glyph (omega arith)
    ∙ sym c.is_below.ensures ∙ c.if-is_below.true in
    searching_next c.args.search c.args.lo (l.place - 1) l.below _ gs (omega arith) s
    (search arith) (search (arith, base_there)) (search arith)

pub loop-place-preserved : goal.loop-place-preserved
loop-place-preserved c =
    let l = c.loop-place in
    let gs = c.args.glyphs.now in
    let s = subst (λ k. Searching c.args.search c.args.lo k l.below gs) (omega arith) l.invariant in
    let here = below_there c.args.search gs (l.place - 1) default_glyph (omega arith)
    ∙ sym c.is_below.ensures ∙ c.if-is_below.false in
    searching_next c.args.search c.args.lo (l.place - 1) l.below _ gs (omega arith) s
    (search arith) (search (arith, base_there)) (cc)

pub returns : goal.returns
returns = search arith
