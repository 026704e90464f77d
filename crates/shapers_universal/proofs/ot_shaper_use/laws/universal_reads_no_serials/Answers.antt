use Rattle.shapers_universal.proofs.UniversalSerials as proofs
use Rattle.shapers_universal.proofs.ot_shaper_use.laws.universal_reads_no_serials.Goals as goal

pub returns-clause-serials : goal.returns-clause-serials
returns-clause-serials c = proofs.universal_reads_no_serials

pub returns-clause-masks : goal.returns-clause-masks
returns-clause-masks c = proofs.universal_reads_no_masks
