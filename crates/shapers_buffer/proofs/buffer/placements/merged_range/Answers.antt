-- What the ends have, and the least.
use Rattle.std.proofs.Common.{min, ap, ◌∙◌}
use Rattle.shapers_buffer.specs.Glyph.{default_glyph}
use Rattle.shapers_buffer.specs.Glyphs.{Glyph}
use Rattle.shapers_buffer.proofs.Arranging.{merged_by_ends}
use Rattle.shapers_buffer.proofs.buffer.placements.merged_range.Goals as goal

pub returns-clause-merged : goal.returns-clause-merged
returns-clause-merged c =
    let gs = c.args.glyphs.now in
    merged_by_ends default_glyph c.args.start c.args.end c.get-first.result.cluster c.min-cluster.result
    c.get-last.result.cluster c.equal_before-before.result c.equal_behind-behind.result gs c.requires.two
    c.requires.in_range (ap (λ (g : Glyph). g.cluster) c.get-first.ensures)
    (ap (λ (g : Glyph). g.cluster) c.get-last.ensures)
    (c.min-cluster.ensures ∙ ap (λ n. min n c.get-first.result.cluster) c.least_cluster.ensures)
    c.equal_before-before.ensures.len c.equal_behind-behind.ensures.len
