-- One move and one merge are the step.
use Rattle.std.proofs.Common.{◌+◌, sym, ap, subst, [], ◌∙◌, length, arith}
use Rattle.shapers_buffer.specs.Buffer.{Buffer}
use Rattle.shapers_buffer.specs.Clusters.{merge}
use Rattle.shapers_buffer.specs.Glyphs.{Glyphs}
use Rattle.shapers_buffer.specs.Placements.{MayArrange, arranged}
use Rattle.shapers_indic_final.specs.Proved.FinalSteps.{matra_stepped}
use Rattle.shapers_indic_final.proofs.FinalArranged.{matra_fits, matra_moved}
use Rattle.shapers_indic_final.proofs.ot_shaper_indic_final.moves.move_matra.Goals as goal

pub merge_arranged-requires-clause-arranges : goal.merge_arranged-requires-clause-arranges
merge_arranged-requires-clause-arranges c =
    let a = c.args in
    let b = a.buffer.now in
    subst (λ ps. MayArrange ps a.start a.end (length b.glyphs) b.places) (sym c.matra_placements-moves.ensures)
    (matra_fits a.start a.end (length b.glyphs) a.matra a.target b.places c.requires.before (omega arith) c.requires.in_range)

pub returns-clause-fits : goal.returns-clause-fits
returns-clause-fits c =
    let a = c.args in
    let b = c.merge_arranged.new.self in
    subst (λ ps. MayArrange ps a.start a.end (length b.glyphs) b.places) (sym c.matra_placements-moves.ensures)
    (matra_fits a.start a.end (length b.glyphs) a.matra a.target b.places c.requires.before (omega arith)
    (omega (arith, c.merge_arranged.ensures.same_length)))

pub returns-clause-glyphs : goal.returns-clause-glyphs
returns-clause-glyphs c =
    let a = c.args in
    let r = c.requires in
    let b0 = a.buffer.now in
    let moved = matra_moved a.start a.end a.matra a.target b0.places b0.glyphs r.before (omega arith) r.in_range in
    c.merge_arranged.ensures.glyphs
    ∙ ap (λ ps. let old = arranged ps a.start a.end b0 in
    let y : Buffer = record old { glyphs = merge b0.level (a.start + a.target) (a.start + a.base_end) old.glyphs } in y)
    c.matra_placements-moves.ensures
    ∙ ap (λ (gs : Glyphs). let y : Buffer = record b0 { glyphs = merge b0.level (a.start + a.target) (a.start + a.base_end) gs; places = [] } in y)
    moved
    ∙ ap (λ (gs : Glyphs). let y : Buffer = record b0 { glyphs = gs; places = [] } in y)
    (matra_stepped b0.level a.start a.end a.base_end a.matra a.target b0.glyphs r.before (omega arith) r.in_range)
