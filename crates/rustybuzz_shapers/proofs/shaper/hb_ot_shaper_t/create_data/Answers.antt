-- The masks of Khmer, said element by element.
use Rattle.std.proofs.Common.{arith}
use Rattle.std.proofs.lemmas.List.Elements.{recursion_from_All}
use Rattle.rustybuzz_shapers.proofs.shaper.hb_ot_shaper_t.create_data.Goals as goal

pub returns-in-Khmer-clause-off_flags : goal.returns-in-Khmer-clause-off_flags
returns-in-Khmer-clause-off_flags = search (arith, recursion_from_All)
