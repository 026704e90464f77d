use Rattle.std.proofs.Common.{arith}
use Rattle.std.proofs.lemmas.Grind.{common_steps}
use Rattle.shapers_buffer.proofs.buffer.walking.change_each_by_in.Goals as goal

pub loop-glyph-preserved : goal.loop-glyph-preserved
loop-glyph-preserved g c f as_f =
    grind (arith, common_steps, as_f _ _ c.change.ensures, c.loop-glyph.invariant f as_f)
