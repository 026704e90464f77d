-- The count's ledger is that of the blank.
use Rattle.shapers_spans.proofs.spans.spans_into.Given as goal

abbrev pub ghosts-spans_into_with : goal.ghosts-spans_into_with
ghosts-spans_into_with g a = record { name = a.blank.name; parts = a.blank.parts }
