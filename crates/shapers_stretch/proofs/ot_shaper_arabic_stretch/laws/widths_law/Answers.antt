use Rattle.shapers_stretch.proofs.LaidText.{stretch_is_as_wide}
use Rattle.shapers_stretch.proofs.ot_shaper_arabic_stretch.laws.widths_law.Goals as goal

pub returns : goal.returns
returns c = stretch_is_as_wide
