-- Laws of the order of a Khmer syllable, as statements.
use Rattle.shapers_khmer.specs.declared.ot_shaper_khmer.reordering.KhmerOrder.{KhmerOrder}
use Rattle.shapers_khmer.specs.Khmer.{khmer_order, khmer_steps}
use Rattle.shapers_syllabic.specs.ReorderingLaws.{MoveMerged, ReadsNoSerials, ReorderLaws}
use Rattle.shapers_syllabic.specs.SpanCuts.{PauseCutsBetweenSpans}
use Rattle.shapers_syllabic.specs.declared.ot_shaper_syllabic.kinds.khmer_syllable.TheConstants.{BROKEN_CLUSTER}

-- the steps of a syllable take each of its places once and lead to its order
abbrev pub KhmerReorderLaws : Type 0
KhmerReorderLaws = (r : KhmerOrder) → ReorderLaws (khmer_order r) khmer_steps

-- and move only inside what they merged first
abbrev pub KhmerMovesMerged : Type 0
KhmerMovesMerged = MoveMerged khmer_steps

-- what a syllable becomes, and by which step, doesn't depend on the serial of its byte
abbrev pub KhmerReadsNoSerials : Type 0
KhmerReadsNoSerials = (r : KhmerOrder) → ReadsNoSerials (khmer_order r) khmer_steps

-- a set-up and a reordering pause directly after it may be cut between any two spans
abbrev pub KhmerCutsBetweenSpans : Type 0
KhmerCutsBetweenSpans =
    (r : KhmerOrder) → PauseCutsBetweenSpans (khmer_order r) khmer_steps BROKEN_CLUSTER
