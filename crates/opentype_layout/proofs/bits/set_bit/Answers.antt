use Rattle.opentype_layout.proofs.BitPlaces.{set_grows, set_is}
use Rattle.opentype_layout.proofs.bits.set_bit.Goals as goal

pub returns-clause-grown : goal.returns-clause-grown
returns-clause-grown c = set_grows _ _ _ c.requires

pub returns-clause-set : goal.returns-clause-set
returns-clause-set c = set_is _ _ c.requires
