use Rattle.std.proofs.Common.{rules}
use Rattle.opentype_gpos.proofs.Marks.{upon_is}
use Rattle.opentype_gpos.proofs.fallback.upon_box.Goals as goal

pub returns : goal.returns
returns c = upon_is _ _ _ c.args.around c.args.position _ c.across_place-x.result c.upright_place-height.result _ _ c.with_offsets.result _ _
    c.across_place-x.ensures c.upright_place-height.ensures (search rules) (search rules) c.with_offsets.ensures
    c.bring_back-placed.ensures c.with_rest.ensures
