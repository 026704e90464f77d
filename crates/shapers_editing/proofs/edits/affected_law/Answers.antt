use Rattle.shapers_editing.proofs.EditedTexts.{unaffected-shared}
use Rattle.shapers_editing.proofs.Shared.{shared-apart, shared-most}
use Rattle.shapers_editing.proofs.edits.affected_law.Goals as goal

pub returns-clause-most : goal.returns-clause-most
returns-clause-most c = shared-most

pub returns-clause-apart : goal.returns-clause-apart
returns-clause-apart c = shared-apart

pub returns-clause-parts : goal.returns-clause-parts
returns-clause-parts c = unaffected-shared
