use Rattle.shapers_position.proofs.RemovalLaws.{drawn_keep, ignorables_are_removed}
use Rattle.shapers_position.proofs.ot_shape_position.laws.hiding_law.Goals as goal

pub returns : goal.returns
returns c = record { drawn = drawn_keep; removed = ignorables_are_removed }
