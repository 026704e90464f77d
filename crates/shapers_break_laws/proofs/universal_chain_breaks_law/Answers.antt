use Rattle.shapers_break_laws.proofs.UniversalChain.{universal_chain, universal_sound_chain, universal_sound_pauses}
use Rattle.shapers_break_laws.proofs.universal_chain_breaks_law.Goals as goal

pub returns-clause-sound : goal.returns-clause-sound
returns-clause-sound c =
    universal_sound_pauses c.universal_reorder_laws.ensures.laws c.universal_reorder_laws.ensures.merged
    c.universal_reads_no_serials.ensures.serials c.universal_reads_no_serials.ensures.masks

pub returns-clause-sound_chain : goal.returns-clause-sound_chain
returns-clause-sound_chain c =
    universal_sound_chain c.universal_reorder_laws.ensures.laws c.universal_reorder_laws.ensures.merged
    c.universal_reads_no_serials.ensures.serials c.universal_reads_no_serials.ensures.masks

pub returns-clause-chain : goal.returns-clause-chain
returns-clause-chain c = universal_chain c.universal_reorder_laws.ensures.laws c.universal_reorder_laws.ensures.merged
    c.universal_reads_no_serials.ensures.serials c.universal_reads_no_serials.ensures.masks
