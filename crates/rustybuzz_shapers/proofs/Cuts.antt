-- The cut between spans, of each shaper's pauses by the words of the dispatcher.
use Rattle.std.proofs.Common.{arith}
use Rattle.std.proofs.Common.{sym, subst}
use Rattle.shapers_buffer.specs.Buffer.{Buffer}
use Rattle.shapers_base.specs.declared.plan.pause.Pause.TheVariants.{SetupSyllablesIndic, SetupSyllablesKhmer, SetupSyllablesMyanmar, InitialReordering, ReorderKhmer, ReorderMyanmar}
use Rattle.shapers_indic.specs.Plan.{indic_in}
use Rattle.shapers_indic_final.specs.FinalCuts.{FinalCutsBetweenSpans}
use Rattle.shapers_indic_final.specs.FinalRules as final
use Rattle.shapers_indic_initial.specs.InitialLaws.{InitialCutsBetweenSpans, OrderByFontLaws, OrderByFontReadsNoSerials}
use Rattle.shapers_khmer.specs.Khmer.{order_in}
use Rattle.shapers_khmer.specs.KhmerLaws.{KhmerCutsBetweenSpans}
use Rattle.shapers_myanmar.specs.MyanmarLaws.{MyanmarCutsBetweenSpans}
use Rattle.shapers_syllabic.specs.Borders.{unnumbered}
use Rattle.shapers_syllabic.specs.ReorderingLaws.{paused_clusters, paused_order}
use Rattle.shapers_syllabic.specs.SpanCuts.{CutsBetweenSpans}
use Rattle.shapers_syllabic.specs.Syllabic.{unsafe_spans}
use Rattle.shapers_universal.specs.UniversalLaws.{UniversalCutsBetweenSpans}
use Rattle.rustybuzz_shapers.specs.Cuts.{IndicIsCutAfterBoth, IsCut, UniversalIsCut}
use Rattle.rustybuzz_shapers.specs.Pauses.{by_initial, by_khmer, by_myanmar, by_universal}

pub khmer_is_cut : KhmerCutsBetweenSpans → IsCut SetupSyllablesKhmer ReorderKhmer by_khmer
khmer_is_cut law plan font spans unread old mid new kinds setup reordered =
    law (order_in plan.plan_data) (by_khmer plan font mid).circles spans old new kinds (search arith)

pub myanmar_is_cut : MyanmarCutsBetweenSpans → IsCut SetupSyllablesMyanmar ReorderMyanmar (λ plan. by_myanmar)
myanmar_is_cut law plan font spans unread old mid new kinds setup reordered =
    law (by_myanmar font mid).circles spans old new kinds (search arith)

pub universal_is_cut : UniversalCutsBetweenSpans → UniversalIsCut
universal_is_cut law plan font spans unread old mid new kinds setup reordered =
    law plan.break_flags plan.plan_data plan.ot_map (by_universal font mid).circles spans old new kinds (search arith)

pub indic_is_cut : InitialCutsBetweenSpans → IsCut SetupSyllablesIndic InitialReordering by_initial
indic_is_cut law plan font spans unread old mid new kinds setup reordered =
    subst (λ (b : Buffer). let r = by_initial plan font b in CutsBetweenSpans unnumbered unsafe_spans
    (paused_order r.circles r.order) (paused_clusters r.circles r.steps old.level) spans old.glyphs new.glyphs)
    (sym setup) (law font plan.ot_map (indic_in plan) spans old new kinds (search arith))

pub indic_is_cut_after_both : OrderByFontLaws → OrderByFontReadsNoSerials → FinalCutsBetweenSpans → IndicIsCutAfterBoth
indic_is_cut_after_both laws reads law plan font spans unread old mid reordered new kinds setup first last =
    let m = plan.ot_map in
    let p = indic_in plan in
    let r = by_initial plan font mid in
    law (final.final_rules font p) r.order r.steps r.circles spans old reordered new
    (laws font m p mid.script) (reads font m p mid.script) kinds (search arith) last
