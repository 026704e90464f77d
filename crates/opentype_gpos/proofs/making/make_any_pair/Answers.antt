use Rattle.opentype_gpos.proofs.Paired.{pair_made}
use Rattle.opentype_gpos.proofs.making.make_any_pair.Goals as goal

pub returns : goal.returns
returns c = pair_made _ c.args.pair.now _ _ _ _ _ c.values_of.ensures.value c.values_of.ensures.second c.requires c.move_pair.ensures
