-- What pauses keep: those that reorder nothing clusters and glyph flags, which are only added; the
-- others the laws of reorderings.
use Rattle.std.proofs.Common.{arith}
use Rattle.std.proofs.Common.{sym, subst}
use Rattle.std.specs.Prelude.{OnOk}
use Rattle.shapers_base.specs.declared.plan.pause.Pause.{Pause}
use Rattle.shapers_base.specs.declared.plan.pause.Pause.TheVariants.{InitialReordering}
use Rattle.shapers_buffer.specs.Buffer.{Buffer}
use Rattle.shapers_indic_initial.proofs.FontPositions.{order_by_font_laws}
use Rattle.shapers_indic_initial.proofs.InitialSerialsStay.{order_by_font_reads_no_serials}
use Rattle.shapers_khmer.specs.Khmer.{order_in}
use Rattle.shapers_khmer.specs.Proved.KhmerLaws.{khmer_laws}
use Rattle.shapers_khmer.proofs.KhmerSerials.{khmer_reads_no_serials}
use Rattle.shapers_myanmar.specs.Proved.MyanmarLaws.{myanmar_laws}
use Rattle.shapers_myanmar.proofs.MyanmarSerials.{myanmar_reads_no_serials}
use Rattle.shapers_universal.proofs.UniversalSerials.{universal_reads_no_serials}
use Rattle.shapers_universal.specs.Proved.UniversalView.{universal_laws}
use Rattle.rustybuzz_shapers.specs.Pauses.{PauseKeeps, RefusesPause, by_initial, by_khmer, by_myanmar, by_universal}
use Rattle.shapers_syllabic.proofs.SetupFlags.{setup_added}
use Rattle.rustybuzz_shapers.proofs.PauseLaws.{both, final_keeps, on_kept}
use Rattle.rustybuzz_shapers.proofs.shaper.pauses.run_syllabic_pause.Goals as goal

pub returns-in_ok-setup_syllables-in-SetupSyllablesIndic-clause-laws :
    goal.returns-in_ok-setup_syllables-in-SetupSyllablesIndic-clause-laws
returns-in_ok-setup_syllables-in-SetupSyllablesIndic-clause-laws = search (arith, setup_added)

pub returns-in_ok-setup_syllables-in-SetupSyllablesKhmer-clause-laws :
    goal.returns-in_ok-setup_syllables-in-SetupSyllablesKhmer-clause-laws
returns-in_ok-setup_syllables-in-SetupSyllablesKhmer-clause-laws = search (arith, setup_added)

pub returns-in_ok-setup_syllables-in-SetupSyllablesMyanmar-clause-laws :
    goal.returns-in_ok-setup_syllables-in-SetupSyllablesMyanmar-clause-laws
returns-in_ok-setup_syllables-in-SetupSyllablesMyanmar-clause-laws = search (arith, setup_added)

pub returns-then-not-may_panic-clause-laws : goal.returns-then-not-may_panic-clause-laws
returns-then-not-may_panic-clause-laws g c =
    let plan = c.args.plan.now in
    let old = c.args.buffer.now in
    let made = c.initial_reordering in
    let kept = on_kept _ made.result (by_initial plan (g.F.hb_font_t.font c.args.face.now) old) old made.new.buffer
    (search (arith, order_by_font_laws)) (search (arith, order_by_font_reads_no_serials)) made.ensures.syllables
    (both _ _ made.result made.ensures.linked made.ensures.merged) in
    search (arith, c.in-InitialReordering.is, kept)

pub returns-in-InitialReordering-clause-laws : goal.returns-in-InitialReordering-clause-laws
returns-in-InitialReordering-clause-laws g c =
    let plan = c.args.plan.now in
    let font = g.F.hb_font_t.font c.args.face.now in
    let made = c.initial_reordering-circles in
    let text = c.replace-text.result in
    let new = made.new.buffer in
    let kept = on_kept _ made.result (by_initial plan font text) text new (search (arith, order_by_font_laws))
    (search (arith, order_by_font_reads_no_serials)) made.ensures.syllables
    (both _ _ made.result made.ensures.linked made.ensures.merged) in
    subst (λ (p : Pause). OnOk made.result (PauseKeeps p plan font c.args.spans.now c.args.buffer.now new))
    (sym c.in-InitialReordering.is)
    (subst (λ (b : Buffer). OnOk made.result (PauseKeeps InitialReordering plan font c.args.spans.now b new))
    c.replace-text.ensures.value kept)

pub returns-in-InitialReordering-clause-refusal : goal.returns-in-InitialReordering-clause-refusal
returns-in-InitialReordering-clause-refusal g c =
    let font = g.F.hb_font_t.font c.args.face.now in
    let made = c.initial_reordering-circles in
    subst (λ (p : Pause). RefusesPause p font c.args.spans.now c.args.buffer.now made.result)
    (sym c.in-InitialReordering.is)
    (subst (λ (b : Buffer). RefusesPause InitialReordering font c.args.spans.now b made.result)
    c.replace-text.ensures.value (made.ensures.refusal, made.ensures.without_memory))

pub returns-in-ReorderKhmer-clause-laws : goal.returns-in-ReorderKhmer-clause-laws
returns-in-ReorderKhmer-clause-laws g c =
    let plan = c.args.plan.now in
    let old = c.args.buffer.now in
    search (
      arith,
      c.in-ReorderKhmer.is,
      on_kept _ c.reorder_khmer.result (by_khmer plan (g.F.hb_font_t.font c.args.face.now) old) old
          c.reorder_khmer.new.buffer (khmer_laws (order_in plan.plan_data))
          (khmer_reads_no_serials (order_in plan.plan_data)) c.reorder_khmer.ensures.ok
          (both _ _ c.reorder_khmer.result c.reorder_khmer.ensures.linked (both _ _ c.reorder_khmer.result
          c.reorder_khmer.ensures.laws c.reorder_khmer.ensures.movers)),
    )

pub returns-in-ReorderMyanmar-clause-laws : goal.returns-in-ReorderMyanmar-clause-laws
returns-in-ReorderMyanmar-clause-laws g c =
    let old = c.args.buffer.now in
    search (
      arith,
      c.in-ReorderMyanmar.is,
      on_kept _ c.reorder_myanmar.result (by_myanmar (g.F.hb_font_t.font c.args.face.now) old) old
          c.reorder_myanmar.new.buffer myanmar_laws myanmar_reads_no_serials c.reorder_myanmar.ensures.order
          (both _ _ c.reorder_myanmar.result c.reorder_myanmar.ensures.linked c.reorder_myanmar.ensures.laws),
    )

pub returns-in-ReorderUse-clause-laws : goal.returns-in-ReorderUse-clause-laws
returns-in-ReorderUse-clause-laws g c =
    let old = c.args.buffer.now in
    search (
      arith,
      c.in-ReorderUse.is,
      on_kept _ c.reorder_use.result (by_universal (g.F.hb_font_t.font c.args.face.now) old) old
          c.reorder_use.new.buffer universal_laws universal_reads_no_serials c.reorder_use.ensures.ok
          (both _ _ c.reorder_use.result c.reorder_use.ensures.linked c.reorder_use.ensures.laws),
    )

pub returns-in-FinalReordering-clause-laws : goal.returns-in-FinalReordering-clause-laws
returns-in-FinalReordering-clause-laws g c =
    let plan = c.args.plan.now in
    let font = g.F.hb_font_t.font c.args.face.now in
    let old = c.args.buffer.now in
    let new = c.final_reordering.new.buffer in
    subst (λ (p : Pause). PauseKeeps p plan font c.args.spans.now old new) (sym c.in-FinalReordering.is) (
      c.final_reordering.ensures.laws,
      (final_keeps plan font old new c.final_reordering.ensures.linked, c.final_reordering.ensures.clusters),
    )
