-- What a regular syllable becomes, by its movers; and a set-up and a pause after it, cut between spans.
use Rattle.std.proofs.Common.{arith}
use Rattle.shapers_khmer.specs.KhmerLaws.{KhmerCutsBetweenSpans}
use Rattle.shapers_khmer.specs.KhmerMovers.{KhmerByMoversLaw}
use Rattle.shapers_khmer.specs.Proved.KhmerLaws.{khmer_laws}
use Rattle.shapers_khmer.proofs.KhmerMoverMasks.{khmer_masks_by_movers}
use Rattle.shapers_khmer.proofs.KhmerMovers.{khmer_order_by_movers}
use Rattle.shapers_khmer.proofs.KhmerSerials.{khmer_reads_no_serials}
use Rattle.shapers_syllabic.proofs.HiddenCuts.{pauses_cut_between_spans}

pub by_movers_law : KhmerByMoversLaw
by_movers_law = search (arith, khmer_order_by_movers, khmer_masks_by_movers)

pub khmer_cuts_between_spans : KhmerCutsBetweenSpans
khmer_cuts_between_spans = search (arith, pauses_cut_between_spans, khmer_laws, khmer_reads_no_serials)
