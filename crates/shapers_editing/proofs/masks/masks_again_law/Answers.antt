use Rattle.shapers_editing.proofs.MasksAgain.{masks-set-once}
use Rattle.shapers_editing.proofs.masks.masks_again_law.Goals as goal

pub returns : goal.returns
returns c = masks-set-once c.again_law.ensures.masks
