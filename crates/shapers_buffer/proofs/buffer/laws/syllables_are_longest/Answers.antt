use Rattle.shapers_buffer.proofs.SyllableLaws.{syllables_are_longest}
use Rattle.shapers_buffer.proofs.buffer.laws.syllables_are_longest.Goals as goal

pub returns : goal.returns
returns c = syllables_are_longest
