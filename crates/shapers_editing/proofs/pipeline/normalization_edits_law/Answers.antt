use Rattle.shapers_editing.proofs.EditedNormal.{normalized-outside}
use Rattle.shapers_editing.proofs.pipeline.normalization_edits_law.Goals as goal

pub returns : goal.returns
returns c = normalized-outside c.normalization_halves_law.ensures
