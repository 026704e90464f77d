use Rattle.std.proofs.Common.{ap, arith, length}
use Rattle.opentype_gsub.proofs.Lengths.{length-multiplied}
use Rattle.opentype_gsub.proofs.apply.put_sequence.Goals as goal

pub behind_sequence-requires : goal.behind_sequence-requires
behind_sequence-requires c = omega (
  arith,
  ap length c.in_ok-multiply.ensures,
  length-multiplied c.args.pass.now.classes.gdef.now c.args.sequence.now c.args.at c.args.text.now c.requires.here,
)
