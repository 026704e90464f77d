use Rattle.std.proofs.Common.{arith, sym}
use Rattle.std.proofs.lemmas.Grind.{common_steps}
use Rattle.opentype_face.proofs.Foremost.{first_hit, first_out, first_passed, first_start}
use Rattle.opentype_face.proofs.directory.first_record.Goals as goal

pub loop-i-init : goal.loop-i-init
loop-i-init c = first_start _ _

pub returns-then-u32_at-tag : goal.returns-then-u32_at-tag
returns-then-u32_at-tag c =
    sym (first_hit _ _ _ _ c.loop-i.invariant (omega arith) (grind (arith, common_steps)))

pub loop-i-preserved : goal.loop-i-preserved
loop-i-preserved c =
    first_passed _ _ _ c.loop-i.invariant (omega arith) (grind (arith, common_steps))

pub returns : goal.returns
returns c = sym (first_out _ _ _ c.loop-i.invariant (omega arith))
