-- One merge and one move are the step.
use Rattle.std.proofs.Common.{◌≡◌, ◌+◌, ap, ◌∙◌, length, arith}
use Rattle.shapers_buffer.specs.Buffer.{Buffer}
use Rattle.shapers_buffer.specs.Clusters.{merge}
use Rattle.shapers_buffer.specs.Glyphs.{Glyphs}
use Rattle.shapers_buffer.specs.Placements.{arranged}
use Rattle.shapers_buffer.proofs.Arranging.{all_long}
use Rattle.shapers_indic_final.proofs.FinalArranged.{moved_second, with_second}
use Rattle.shapers_indic_final.specs.Proved.FinalSteps.{reph_stepped}
use Rattle.shapers_indic_final.proofs.ot_shaper_indic_final.moves.move_reph.Goals as goal

pub returns-clause-glyphs : goal.returns-clause-glyphs
returns-clause-glyphs c =
    let a = c.args in
    let ps = a.moves in
    let r = c.requires in
    let b0 = a.buffer.now in
    let old = arranged ps a.start a.end b0 in
    let long : length old.glyphs ≡ length b0.glyphs = all_long ps a.start a.end b0.places b0.glyphs r.fits in
    let hs = merge b0.level a.start (a.start + a.target + 1) old.glyphs in
    let done = moved_second ps _ a.start a.end a.start (a.start + a.target + 1) b0 c.merge_arranged.new.self hs r.fits r.second r.third
    (omega arith) (omega arith) (omega (arith, r.inside)) (ap (λ p. with_second ps p) c.first_last.ensures)
    c.merge_arranged.ensures.others c.merge_arranged.ensures.same_length c.merge_arranged.ensures.glyphs in
    done.0 ∙ ap (λ (gs : Glyphs). let y : Buffer = record old { glyphs = gs } in y)
    (reph_stepped b0.level a.start a.end a.target old.glyphs r.inside (omega (arith, r.fits.in_range)))

pub returns-clause-fits : goal.returns-clause-fits
returns-clause-fits c =
    let a = c.args in
    let ps = a.moves in
    let r = c.requires in
    let b0 = a.buffer.now in
    let old = arranged ps a.start a.end b0 in
    let long : length old.glyphs ≡ length b0.glyphs = all_long ps a.start a.end b0.places b0.glyphs r.fits in
    let hs = merge b0.level a.start (a.start + a.target + 1) old.glyphs in
    let done = moved_second ps _ a.start a.end a.start (a.start + a.target + 1) b0 c.merge_arranged.new.self hs r.fits r.second r.third
    (omega arith) (omega arith) (omega (arith, r.inside)) (ap (λ p. with_second ps p) c.first_last.ensures)
    c.merge_arranged.ensures.others c.merge_arranged.ensures.same_length c.merge_arranged.ensures.glyphs in
    done.1
