-- Laws of normalization for a shaper.
use Rattle.std.specs.Prelude.{Bool, Option}
use Rattle.rustybuzz_shapers.specs.declared.shaper.hb_ot_shaper_t.{hb_ot_shaper_t}
use Rattle.shapers_base.specs.Font.{CharacterTables, Font}
use Rattle.shapers_base.specs.declared.font.GlyphId.{GlyphId}
use Rattle.shapers_base.specs.declared.plan.hb_ot_shape_plan_t.{hb_ot_shape_plan_t}
use Rattle.shapers_normal.specs.Laws.{OrdersAlone, OrdersMonotone}
use Rattle.shapers_pipeline.specs.ByShaper.{shaper_context}
use Rattle.shapers_pipeline.specs.TextTables.{TextTables, VariantForms}

-- The order of marks of each shaper is as the law of halves requires.
abbrev pub ShapersOrderAlone : Type 0
ShapersOrderAlone = (shaper : Option hb_ot_shaper_t) (plan : hb_ot_shape_plan_t) (font : Font)
    (variants : VariantForms) (tables : CharacterTables) (texts : TextTables)
    (invisible : Option GlyphId) (draws_selectors : Bool) →
    OrdersAlone
    (shaper_context shaper plan font variants tables texts invisible draws_selectors)

-- And it keeps clusters rising, or falling, at the levels that merge.
abbrev pub ShapersOrderMonotone : Type 0
ShapersOrderMonotone = (shaper : Option hb_ot_shaper_t) (plan : hb_ot_shape_plan_t) (font : Font)
    (variants : VariantForms) (tables : CharacterTables) (texts : TextTables)
    (invisible : Option GlyphId) (draws_selectors : Bool) →
    OrdersMonotone
    (shaper_context shaper plan font variants tables texts invisible draws_selectors)
