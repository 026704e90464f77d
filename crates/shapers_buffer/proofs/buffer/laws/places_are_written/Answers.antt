use Rattle.shapers_buffer.proofs.PlaceLaws.{places_are_written}
use Rattle.shapers_buffer.proofs.buffer.laws.places_are_written.Goals as goal

pub returns : goal.returns
returns c = places_are_written
