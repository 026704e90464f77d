use Rattle.std.proofs.Common.{rules}
use Rattle.shapers_base.proofs.MapLemmas.{found_is_off_flags}
use Rattle.shapers_base.proofs.map.hb_ot_map_t.get_1_mask.Goals as goal

pub returns-in-Some-clause-off_flags : goal.returns-in-Some-clause-off_flags
returns-in-Some-clause-off_flags = search (rules, found_is_off_flags)
