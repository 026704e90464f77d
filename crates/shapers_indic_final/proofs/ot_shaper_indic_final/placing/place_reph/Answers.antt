-- One step, if a reph begins the syllable.
use Rattle.std.proofs.Common.{◌≡◌, ◌-◌, ◌≤◌, length, sym, subst, ◌∙◌, arith}
use Rattle.shapers_buffer.specs.Buffer.{Buffer}
use Rattle.shapers_buffer.specs.Clusters.{stretch_of}
use Rattle.shapers_buffer.specs.Placements.{arranged}
use Rattle.shapers_buffer.proofs.Arranging.{all_long}
use Rattle.shapers_buffer.proofs.ClusterLemmas.{length-stretch}
use Rattle.shapers_clusters.specs.Steps.{after_step, widened}
use Rattle.shapers_indic_final.specs.FinalReph.{final_reph_step, reph_steps}
use Rattle.shapers_indic_final.proofs.FinalArranged.{reph_one}
use Rattle.shapers_indic_final.proofs.FinalPlacing.{one_step}
use Rattle.shapers_indic_final.proofs.ot_shaper_indic_final.placing.place_reph.Goals as goal

pub read_arranged-requires-clause-readable : goal.read_arranged-requires-clause-readable
read_arranged-requires-clause-readable c =
    let a = c.args in
    let b = a.buffer.now in
    let old = arranged a.moves.now a.start a.end b in
    let long : length old.glyphs ≡ length b.glyphs = all_long a.moves.now a.start a.end b.places b.glyphs c.requires.fits in
    subst (λ n. a.base ≤ n) (sym (length-stretch a.start a.end old.glyphs (omega (arith, c.requires.fits.in_range))))
    c.requires.in_syllable

pub returns-in-Some-clause-glyphs : goal.returns-in-Some-clause-glyphs
returns-in-Some-clause-glyphs c =
    let a = c.args in
    let ps = a.moves.now in
    let b = a.buffer.now in
    let old = arranged ps a.start a.end b in
    let new = arranged c.move_reph.result a.start a.end c.move_reph.new.buffer in
    let j = c.in-Some.target in
    let long : length old.glyphs ≡ length b.glyphs = all_long ps a.start a.end b.places b.glyphs c.requires.fits in
    let part = length-stretch a.start a.end old.glyphs (omega (arith, c.requires.fits.in_range)) in
    let step = final_reph_step (a.end - a.start) j in
    let moved = subst (λ (x : Buffer). let old = arranged ps a.start a.end x in
    let y : Buffer = record old {
      glyphs = after_step old.level (widened a.start a.end (length old.glyphs) step) old.glyphs;
      places = new.places;
    } in new ≡ y) c.read_arranged.ensures.same c.move_reph.ensures.glyphs in
    one_step old new a.start a.end (reph_steps a.position a.base (stretch_of a.start a.end old.glyphs)) step
    (reph_one a.position a.base (a.end - a.start) j (stretch_of a.start a.end old.glyphs)
    (sym c.read_arranged.ensures.read.0 ∙ c.in-Some.is) part) moved
