use Rattle.shapers_text.proofs.ThaiFormWalks.{forms_hold}
use Rattle.shapers_text.proofs.ot_shaper_thai.laws.forms_law.Goals as goal

pub returns : goal.returns
returns c = forms_hold
