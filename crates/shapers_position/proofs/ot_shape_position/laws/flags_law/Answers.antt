use Rattle.shapers_position.proofs.OneGlyph.{flags_are_shared, one_flag_tells, one_glyph_tells}
use Rattle.shapers_position.proofs.ot_shape_position.laws.flags_law.Goals as goal

pub returns : goal.returns
returns c = record { shared = flags_are_shared; one_glyph = one_glyph_tells; one_flag = one_flag_tells }
