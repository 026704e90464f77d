use Rattle.shapers_buffer.proofs.Placements.{parts_change_places}
use Rattle.shapers_buffer.proofs.buffer.laws.parts_change_places.Goals as goal

pub returns : goal.returns
returns c = parts_change_places
