-- A merge of both lists.
use Rattle.std.proofs.Common.{◌∙◌, ◌-◌, ◌++◌, length, get_or, sym, ap}
use Rattle.shapers_buffer.specs.Clusters.{flooded}
use Rattle.shapers_buffer.specs.Glyph.{default_glyph}
use Rattle.shapers_normal.proofs.Joining.{joined_lists}
use Rattle.shapers_normal.proofs.ot_shape_normalize.recomposing.merge_joined.Goals as goal

pub returns-then-merges : goal.returns-then-merges
returns-then-merges c =
    let xs = c.args.front.now in
    let ys = c.args.behind.now in
    let last = (get_or xs (length xs - 1) default_glyph).cluster in
    ap (λ gs. c.merge_clusters_in.new.glyphs ++ gs) c.flood_behind.ensures
    ∙ ap (λ gs. gs ++ flooded last (get_or gs c.args.s default_glyph).cluster ys) c.merge_clusters_in.ensures
    ∙ joined_lists c.args.level c.args.s xs ys (sym c.merges.ensures ∙ c.if-merges.true) c.requires
