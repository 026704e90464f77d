-- One merge is the step.
use Rattle.std.proofs.Common.{arith}
use Rattle.shapers_buffer.proofs.ClusterLemmas.{length-stretch}
use Rattle.shapers_indic_final.proofs.FinalPlacing.{stayed_in}
use Rattle.shapers_indic_final.proofs.ot_shaper_indic_final.placing.merge_matras.Goals as goal

pub returns-in-Some-clause-glyphs : goal.returns-in-Some-clause-glyphs
returns-in-Some-clause-glyphs c =
    let a = c.args in
    let old = a.buffer.now in
    let r = c.requires in
    let end = r.end in
    stayed_in old c.merge_clusters.new.self a.start a.end a.base a.base_end c.in-Some.i r.in_order
    (omega (arith, length-stretch a.start a.end old.glyphs r.in_range)) r.in_range end
    (search arith) c.merge_clusters.ensures
