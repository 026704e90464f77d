-- The count's ledger is that of the blank.
use Rattle.shapers_spans.proofs.syllables.find_syllables.Given as goal

abbrev pub ghosts-find_syllables_with : goal.ghosts-find_syllables_with
ghosts-find_syllables_with g a = record { name = a.blank.name; parts = a.blank.parts }
