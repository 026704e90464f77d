use Rattle.shapers_normal.proofs.WholeTexts.{whole_texts_stay}
use Rattle.shapers_normal.proofs.ot_shape_normalize.laws.whole_texts_law.Goals as goal

pub returns : goal.returns
returns c = whole_texts_stay
