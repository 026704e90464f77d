use Rattle.shapers_position.proofs.RemovalLaws.{changed_by_glyphs}
use Rattle.shapers_position.proofs.ot_shape_position.laws.positions_law.Goals as goal

pub returns : goal.returns
returns c = changed_by_glyphs
