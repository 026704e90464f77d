-- What every reordering keeps, from what it does.
use Rattle.std.proofs.Common.{arith}
use Rattle.std.proofs.Common.{Bool, ◌++◌, map, ap, ◌∙◌}
use Rattle.std.specs.Prelude.{Err, Ok, OnOk, Result}
use Rattle.std.proofs.lemmas.List.{map-append}
use Rattle.shapers_buffer.specs.declared.buffer.refusal.ShaperError.{ShaperError}
use Rattle.shapers_buffer.specs.Buffer.{Buffer}
use Rattle.shapers_syllabic.specs.Borders.{unnumbered}
use Rattle.shapers_syllabic.specs.Circles.{circled}
use Rattle.shapers_syllabic.specs.ReorderingLaws.{PauseCutsAtBorders, ReadsNoSerials, ReorderLaws, paused_carried}
use Rattle.shapers_syllabic.proofs.CircleLaws.{no_new_cluster}
use Rattle.shapers_syllabic.proofs.HiddenCuts.{cuts_with_serials}
use Rattle.shapers_syllabic.proofs.ReorderingCuts.{cuts_at_borders}
use Rattle.shapers_syllabic.proofs.ReorderingLaws.{text_reordered}
use Rattle.shapers_syllabic.proofs.Serials.{serials_dont_count}
use Rattle.shapers_base.specs.declared.plan.hb_ot_shape_plan_t.{hb_ot_shape_plan_t}
use Rattle.shapers_base.specs.Font.{Font}
use Rattle.shapers_indic.specs.Plan.{indic_in}
use Rattle.shapers_indic_final.specs.FinalRules.{final_rules}
use Rattle.shapers_indic_final.specs.FinalWordStart.{FinallyLinked}
use Rattle.shapers_indic_final.specs.Proved.FinalLaws.{final_laws}
use Rattle.shapers_indic_final.proofs.FinalSerials.{final_reads_no_serials}
use Rattle.shapers_indic_final.proofs.FinalText.{reordered_by_chain}
use Rattle.rustybuzz_shapers.specs.Pauses.{CarriedAtBorders, OneByOne, Reordered, Reordering, ReorderingKeeps, ThenStarted, by_final}

carried_at_borders : (r : Reordering) (old new : Buffer) → ReadsNoSerials r.order r.steps
    → PauseCutsAtBorders r.circles r.order r.steps old new → CarriedAtBorders r old new
carried_at_borders r old new reads cuts gs hs xs ys text border one two none =
    let made = paused_carried r.circles r.steps old.level in
    ap (map unnumbered) ((cuts gs hs text border).moved none) ∙ map-append unnumbered (made gs) (made hs)
    ∙ ap (λ zs. zs ++ map unnumbered (made hs))
    (serials_dont_count r.circles r.order r.steps old.level gs xs reads one).moved
    ∙ ap (λ zs. map unnumbered (made xs) ++ zs)
    (serials_dont_count r.circles r.order r.steps old.level hs ys reads two).moved

reordering_keeps : (r : Reordering) (old new : Buffer) → ReorderLaws r.order r.steps → ReadsNoSerials r.order r.steps
    → Reordered r old new → ReorderingKeeps r old new
reordering_keeps r old new laws reads done =
    let text = text_reordered r.order r.steps (record old { glyphs = circled r.circles old.glyphs }) new laws done in
    search (arith, cuts_at_borders, cuts_with_serials, carried_at_borders, no_new_cluster)

-- so of a pause that may refuse, with what else it keeps
pub on_kept : (P : Type 0) (result : Result Bool ShaperError) (r : Reordering) (old new : Buffer)
    → ReorderLaws r.order r.steps → ReadsNoSerials r.order r.steps → OnOk result (Reordered r old new) → OnOk result P
    → OnOk result (ReorderingKeeps r old new × P)
on_kept P (Ok _) r old new laws reads done more = search (arith, reordering_keeps)
on_kept P (Err _) r old new laws reads done more = tt

-- and where two more things are kept
pub both : (P Q : Type 0) (result : Result Bool ShaperError) → OnOk result P → OnOk result Q → OnOk result (P × Q)
both P Q (Ok _) p q = (p, q)
both P Q (Err _) p q = tt

-- the final reordering of Indic, by its chain
pub final_keeps : (plan : hb_ot_shape_plan_t) (font : Font) (old new : Buffer)
    → FinallyLinked (final_rules font (indic_in plan)) old new
    → ThenStarted plan font (λ mid. ReorderingKeeps (by_final plan font old) old mid × OneByOne (by_final plan font old)
    old mid) new
final_keeps plan font old new linked = search (arith, reordering_keeps, final_laws, final_reads_no_serials, reordered_by_chain)
