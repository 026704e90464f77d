-- The count's ledger is that of the blank.
use Rattle.shapers_bench.proofs.joining.counts_look_ups_without_bytes.Given as goal

abbrev pub ghosts-count : goal.ghosts-count
ghosts-count g a = record { name = a.blank.name; parts = a.blank.parts }
