use Rattle.shapers_buffer.proofs.BitLemmas.{bits_are_set_alone}
use Rattle.shapers_buffer.proofs.buffer.laws.bits_are_set_alone.Goals as goal

pub returns : goal.returns
returns c = bits_are_set_alone
