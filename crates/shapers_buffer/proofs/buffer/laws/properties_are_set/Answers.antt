use Rattle.shapers_buffer.proofs.PropertyLemmas.{properties_are_set}
use Rattle.shapers_buffer.proofs.buffer.laws.properties_are_set.Goals as goal

pub returns : goal.returns
returns c = properties_are_set
