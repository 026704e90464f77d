use Rattle.shapers_break_laws.proofs.UniversalSound.{universal_sound_breaks}
use Rattle.shapers_break_laws.proofs.universal_sound_breaks_law.Goals as goal

pub returns : goal.returns
returns c = universal_sound_breaks
