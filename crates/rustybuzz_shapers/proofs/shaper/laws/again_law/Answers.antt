use Rattle.rustybuzz_shapers.proofs.Again.{masks_once, pauses_once}
use Rattle.rustybuzz_shapers.proofs.shaper.laws.again_law.Goals as goal

pub returns-clause-pauses : goal.returns-clause-pauses
returns-clause-pauses c = pauses_once

pub returns-clause-masks : goal.returns-clause-masks
returns-clause-masks c = masks_once
