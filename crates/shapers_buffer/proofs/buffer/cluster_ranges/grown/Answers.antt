-- The range that the merge makes, and that none of its glyphs is below it.
use Rattle.std.proofs.Common.{◌-◌, min, ap, arith, drop, length, length-drop, ◌∙◌}
use Rattle.std.proofs.lemmas.List.{take_all}
use Rattle.shapers_buffer.specs.Clusters.{stretch_of}
use Rattle.shapers_buffer.specs.RangeWalk.{equal_behind}
use Rattle.shapers_buffer.proofs.ClusterLemmas.{last-read, length-stretch}
use Rattle.shapers_buffer.proofs.RunLemmas.{grown_least, grown_merged}
use Rattle.shapers_buffer.proofs.buffer.cluster_ranges.grown.Goals as goal

pub returns-clause-merged : goal.returns-clause-merged
returns-clause-merged c =
    let gs = c.args.glyphs.now in
    let b = c.args.range.end in
    let e = c.args.end in
    let more = stretch_of b e gs in
    λ s from inside. grown_merged c.args.range.start b c.args.range.cluster s e _ _ _ _ gs from inside c.requires.further
    c.requires.in_range c.requires.fits.least
    (c.min-cluster.ensures ∙ ap (λ n. min n c.args.range.cluster) c.least_cluster.ensures) (last-read more
    (search (arith, length-stretch))) c.equal_before-before.ensures.len (c.equal_behind-behind.ensures.len
    ∙ ap (equal_behind _ _) (take_all (length gs - e) (drop e gs) (omega (arith, length-drop e gs))))

pub returns-clause-fits : goal.returns-clause-fits
returns-clause-fits = search (arith, length-drop, grown_least, last-read, take_all)
