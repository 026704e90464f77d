use Rattle.shapers_break_laws.proofs.ThaiBreaks.{sara_ams_break, thai_forms_break}
use Rattle.shapers_break_laws.proofs.ThaiSound.{thai_sound_break}
use Rattle.shapers_break_laws.proofs.thai_breaks_law.Goals as goal

pub returns-clause-sara_ams : goal.returns-clause-sara_ams
returns-clause-sara_ams c = sara_ams_break

pub returns-clause-forms : goal.returns-clause-forms
returns-clause-forms c = thai_forms_break

pub returns-clause-sound : goal.returns-clause-sound
returns-clause-sound c = thai_sound_break
