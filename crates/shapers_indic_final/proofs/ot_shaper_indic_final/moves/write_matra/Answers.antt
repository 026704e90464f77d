-- One move and one merge are the step.
use Rattle.std.proofs.Common.{◌≡◌, ◌+◌, sym, ap, subst, ◌∙◌, length, arith}
use Rattle.shapers_buffer.specs.Buffer.{Buffer}
use Rattle.shapers_buffer.specs.Clusters.{merge, with_stretch}
use Rattle.shapers_buffer.specs.Glyphs.{Glyphs}
use Rattle.shapers_buffer.specs.Lists.{first_last}
use Rattle.shapers_buffer.specs.Places.{PlacesEachOnce, placed_by}
use Rattle.shapers_buffer.proofs.Arranging.{length-merged, placed_long}
use Rattle.shapers_indic_final.specs.Proved.FinalSteps.{matra_stepped}
use Rattle.shapers_indic_final.proofs.FinalArranged.{goes_last, matra_fits}
use Rattle.shapers_indic_final.proofs.ot_shaper_indic_final.moves.write_matra.Goals as goal

pub apply-requires-clause-permutes : goal.apply-requires-clause-permutes
apply-requires-clause-permutes c =
    let a = c.args in
    let b = a.buffer.now in
    subst (λ p. PlacesEachOnce p a.start a.end b.places) (sym c.first_last.ensures)
    (matra_fits a.start a.end (length b.glyphs) a.matra a.target b.places c.requires.before (omega arith) c.requires.in_range).first

pub merge_clusters-requires-clause-in_range : goal.merge_clusters-requires-clause-in_range
merge_clusters-requires-clause-in_range c =
    let a = c.args in
    let b = a.buffer.now in
    let fits = subst (λ p. PlacesEachOnce p a.start a.end b.places) (sym c.first_last.ensures)
    (matra_fits a.start a.end (length b.glyphs) a.matra a.target b.places c.requires.before (omega arith) c.requires.in_range).first in
    let n = ap (λ (x : Buffer). length x.glyphs) c.apply.ensures
    ∙ placed_long c.first_last.result a.start a.end b.places b.glyphs (omega arith) c.requires.in_range fits in
    omega (arith, c.requires.in_order, c.requires.in_range)

pub returns-clause-glyphs : goal.returns-clause-glyphs
returns-clause-glyphs c =
    let a = c.args in
    let r = c.requires in
    let b = a.buffer.now in
    let moved : placed_by c.first_last.result a.start a.end b.places b.glyphs
    ≡ with_stretch (a.start + a.matra) (a.start + a.target + 1) first_last b.glyphs =
    ap (λ p. placed_by p a.start a.end b.places b.glyphs) c.first_last.ensures
    ∙ goes_last a.start a.end (a.start + a.matra) (a.start + a.target + 1) b.places b.glyphs (omega arith) (omega (arith, r.before))
    (omega (arith, r.base, r.in_order)) r.in_range in
    c.merge_clusters.ensures
    ∙ ap (λ (x : Buffer). let y : Buffer = record x { glyphs = merge x.level (a.start + a.target) (a.start + a.base_end) x.glyphs } in y)
    c.apply.ensures
    ∙ ap (λ (gs : Glyphs). let y : Buffer = record b { glyphs = merge b.level (a.start + a.target) (a.start + a.base_end) gs } in y) moved
    ∙ ap (λ (gs : Glyphs). let y : Buffer = record b { glyphs = gs } in y)
    (matra_stepped b.level a.start a.end a.base_end a.matra a.target b.glyphs r.before (omega (arith, r.base, r.in_order)) r.in_range)

pub returns-clause-same_length : goal.returns-clause-same_length
returns-clause-same_length c =
    let a = c.args in
    let b = a.buffer.now in
    let fits = subst (λ p. PlacesEachOnce p a.start a.end b.places) (sym c.first_last.ensures)
    (matra_fits a.start a.end (length b.glyphs) a.matra a.target b.places c.requires.before (omega arith) c.requires.in_range).first in
    ap (λ (x : Buffer). length x.glyphs) c.merge_clusters.ensures
    ∙ length-merged c.apply.new.self.level (a.start + a.target) (a.start + a.base_end) c.apply.new.self.glyphs (omega (arith, c.requires.base))
    ∙ ap (λ (x : Buffer). length x.glyphs) c.apply.ensures
    ∙ placed_long c.first_last.result a.start a.end b.places b.glyphs (omega arith) c.requires.in_range fits
