-- One way for all characters.
use Rattle.std.proofs.Common.{◌&&◌, ap, sym, ◌∙◌}
use Rattle.std.specs.Prelude.{not}
use Rattle.std.specs.List.{list_any}
use Rattle.shapers_normal.specs.Variants.{is_selector_glyph}
use Rattle.shapers_normal.specs.declared.ot_shape_normalize.decomposing.Way.TheVariants.{Short, Whole}
use Rattle.shapers_normal.proofs.OneWay.{all_unselected, clusters_stay_short, clusters_stay_whole}
use Rattle.shapers_normal.proofs.ot_shape_normalize.decomposing.stays_together.Goals as goal

pub returns-in-NONE : goal.returns-in-NONE
returns-in-NONE g c =
    let context = g.C.NormalizeContext.context c.args.context.now in
    let gs = c.args.glyphs.now in
    c.all_stay.ensures
    ∙ all_unselected context Short gs
    ∙ ap (λ b. not (list_any is_selector_glyph gs) && b)
    (clusters_stay_short context gs (sym c.normalization_preference.ensures ∙ c.in-NONE.is))

pub returns-in-CD : goal.returns-in-CD
returns-in-CD g c =
    let context = g.C.NormalizeContext.context c.args.context.now in
    let gs = c.args.glyphs.now in
    c.all_stay-in-CD.ensures
    ∙ all_unselected context Whole gs
    ∙ ap (λ b. not (list_any is_selector_glyph gs) && b)
    (clusters_stay_whole context gs (sym c.normalization_preference.ensures ∙ c.in-CD.is))
