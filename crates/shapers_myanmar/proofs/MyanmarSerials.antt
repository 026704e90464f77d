-- The order of a syllable doesn't read the serial of its byte.
use Rattle.std.proofs.Common.{◌≡◌, arith}
use Rattle.shapers_buffer.specs.Glyphs.{Glyphs}
use Rattle.shapers_clusters.proofs.Picks.{pick-map}
use Rattle.shapers_syllabic.proofs.HiddenCuts.{pauses_cut_between_spans}
use Rattle.shapers_syllabic.proofs.LawsThen.{reads_by_view}
use Rattle.shapers_syllabic.proofs.Views.{KeepsKinds, View, seen_by, shown, unnumbered_view}
use Rattle.shapers_myanmar.specs.Myanmar.{in_myanmar_order, myanmar_order, myanmar_steps, myanmar_ordered_places, with_positions}
use Rattle.shapers_myanmar.specs.MyanmarLaws.{MyanmarCutsBetweenSpans, MyanmarReadsNoSerials}
use Rattle.shapers_myanmar.specs.Proved.MyanmarLaws.{myanmar_laws}
use Rattle.shapers_myanmar.specs.Proved.MyanmarPlain.{merges-seen, places-seen, positions-seen}

order_stays : (v : View) → KeepsKinds v → (gs : Glyphs) → seen_by v (myanmar_order gs) ≡ myanmar_order (seen_by v gs)
order_stays v kinds gs =
    let hs = with_positions gs in
    let same = positions-seen v gs in
    let moved : seen_by v (in_myanmar_order hs) ≡ in_myanmar_order (with_positions (seen_by v gs)) =
    cc (pick-map (shown v) (myanmar_ordered_places hs) hs, places-seen v hs) in
    search arith

steps_stay : (v : View) → KeepsKinds v → (gs : Glyphs) → myanmar_steps (seen_by v gs) ≡ myanmar_steps gs
steps_stay = search (arith, positions-seen, merges-seen, places-seen)

pub myanmar_reads_no_serials : MyanmarReadsNoSerials
myanmar_reads_no_serials =
    let kinds : KeepsKinds unnumbered_view = λ b. omega arith in
    reads_by_view myanmar_order myanmar_steps (order_stays unnumbered_view kinds) (steps_stay unnumbered_view kinds)

pub myanmar_cuts_between_spans : MyanmarCutsBetweenSpans
myanmar_cuts_between_spans = search (pauses_cut_between_spans, myanmar_laws, myanmar_reads_no_serials)
