use Rattle.shapers_myanmar.proofs.MyanmarSerials as proofs
use Rattle.shapers_myanmar.proofs.ot_shaper_myanmar.laws.myanmar_reads_no_serials.Goals as goal

pub returns : goal.returns
returns c = proofs.myanmar_reads_no_serials
