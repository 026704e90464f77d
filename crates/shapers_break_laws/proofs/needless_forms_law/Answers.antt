use Rattle.shapers_break_laws.proofs.NeedlessForms.{no_form_flag_is_needless}
use Rattle.shapers_break_laws.proofs.needless_forms_law.Goals as goal

pub returns : goal.returns
returns c = no_form_flag_is_needless
