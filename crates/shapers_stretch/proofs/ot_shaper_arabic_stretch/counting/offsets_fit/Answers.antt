use Rattle.std.proofs.Common.{◌-◌, take, sym, subst, ap, ◌∙◌, arith, rules, to_z}
use Rattle.std.proofs.lemmas.Int.{to_z-of_z}
use mir.Syntax.{w64}
use Rattle.shapers_buffer.specs.Glyph.{default_glyph}
use Rattle.shapers_stretch.specs.CountingWalk.{IsNumber, offsets_fit, sequence_moves}
use Rattle.shapers_stretch.proofs.Counts.{fits_next, fits_not}
use Rattle.shapers_stretch.proofs.ot_shaper_arabic_stretch.counting.offsets_fit.Goals as goal

pub loop-left-preserved : goal.loop-left-preserved
loop-left-preserved g c =
    let font = g.F.hb_font_t.font c.args.font.now in
    let rtl = c.args.right_to_left in
    let lay = c.args.lay in
    let tiles = c.args.tiles.now in
    let pen = to_z w64 c.loop-left.pen-bits in
    let i = c.loop-left.left - 1 in
    let behind = c.in-Some.behind in
    let same_behind = to_z-of_z w64 behind (search rules) in
    record {
      within = omega arith;
      pen = subst IsNumber (sym same_behind) c.in-Some.ensures.2;
      same = ap (λ p. offsets_fit rtl p (sequence_moves font lay (take i tiles))) same_behind
          ∙ fits_next font lay rtl pen behind tiles i default_glyph (omega arith) c.in-Some.ensures
          ∙ ap (λ n. offsets_fit rtl pen (sequence_moves font lay (take n tiles)))
          (omega arith) ∙ c.loop-left.invariant.same;
    }

pub returns-in-None : goal.returns-in-None
returns-in-None = search (arith, fits_not)
