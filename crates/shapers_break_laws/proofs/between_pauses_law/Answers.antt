use Rattle.shapers_break_laws.proofs.BetweenPauses.{between_pauses, halves_then}
use Rattle.shapers_break_laws.proofs.between_pauses_law.Goals as goal

pub returns-clause-pauses : goal.returns-clause-pauses
returns-clause-pauses c = between_pauses

pub returns-clause-several : goal.returns-clause-several
returns-clause-several c = halves_then
