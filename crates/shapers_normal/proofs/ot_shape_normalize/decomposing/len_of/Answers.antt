-- One glyph at least.
use Rattle.std.proofs.Common.{◌∙◌, ap, length, max}
use Rattle.shapers_normal.specs.Decomposition.{image}
use Rattle.shapers_normal.proofs.Clusters.{length-written}
use Rattle.shapers_normal.proofs.ot_shape_normalize.decomposing.len_of.Goals as goal

pub returns : goal.returns
returns g c =
    let context = g.C.NormalizeContext.context c.args.context.now in
    let glyph = c.args.glyph.now in
    length-written context glyph (image context c.args.way glyph.glyph_id) c.max.result
    (c.max.ensures ∙ ap (λ n. max n 1) (c.len.ensures.value ∙ ap length c.image.ensures))
