use Rattle.shapers_khmer.proofs.KhmerMoverMasks.{khmer_masks_by_movers}
use Rattle.shapers_khmer.proofs.KhmerMoverMerges.{khmer_merges_by_movers}
use Rattle.shapers_khmer.proofs.KhmerByMovers as proofs
use Rattle.shapers_khmer.proofs.KhmerMovers.{khmer_order_by_movers}
use Rattle.shapers_khmer.proofs.ot_shaper_khmer.laws.khmer_orders_by_movers.Goals as goal

pub returns-clause-order : goal.returns-clause-order
returns-clause-order c = khmer_order_by_movers

pub returns-clause-masks : goal.returns-clause-masks
returns-clause-masks c = khmer_masks_by_movers

pub returns-clause-merges : goal.returns-clause-merges
returns-clause-merges c = khmer_merges_by_movers

pub returns-clause-syllable : goal.returns-clause-syllable
returns-clause-syllable c = proofs.by_movers_law
