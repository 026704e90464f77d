use Rattle.shapers_khmer.proofs.KhmerSerials as proofs
use Rattle.shapers_khmer.proofs.ot_shaper_khmer.laws.khmer_reads_no_serials.Goals as goal

pub returns : goal.returns
returns c = proofs.khmer_reads_no_serials
