use Rattle.shapers_break_laws.proofs.HangulBreaks.{hangul_breaks}
use Rattle.shapers_break_laws.proofs.HangulSound.{hangul_sound_breaks}
use Rattle.shapers_break_laws.proofs.hangul_breaks_law.Goals as goal

pub returns-clause-graphemes : goal.returns-clause-graphemes
returns-clause-graphemes c = hangul_breaks

pub returns-clause-sound : goal.returns-clause-sound
returns-clause-sound c = hangul_sound_breaks
