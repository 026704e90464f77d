-- What the reorderings of Indic make of two halves keeps to their clusters.
use Rattle.std.proofs.Common.{List, length, refl, sym, subst, ◌∙◌, arith}
use Rattle.std.specs.List.{All, Contains}
use Rattle.std.specs.Prelude.{Option}
use Rattle.std.proofs.lemmas.List.{length-map}
use Rattle.std.proofs.lemmas.List.Elements.{All-contains_itself}
use Rattle.shapers_base.specs.declared.plan.pause.Pause.TheVariants.{InitialReordering, FinalReordering}
use Rattle.shapers_buffer.specs.Glyphs.{Glyph, Glyphs}
use Rattle.shapers_buffer.specs.declared.buffer.level.BufferClusterLevel.{BufferClusterLevel}
use Rattle.shapers_buffer.specs.Glyph.{clusters, order_view, plain}
use Rattle.shapers_buffer.specs.Syllables.{syllables}
use Rattle.shapers_clusters.specs.Steps.{FitSteps, FitsStep, Step, joined_steps, after_steps}
use Rattle.shapers_clusters.proofs.Moves.{all-joined_steps, clusters-after_steps}
use Rattle.shapers_clusters.proofs.Proved.{along_holds}
use Rattle.shapers_indic.specs.Plan.{indic_in}
use Rattle.shapers_indic_final.specs.FinalLaws.{final_text_steps}
use Rattle.shapers_indic_final.specs.FinalRules.{final_rules}
use Rattle.shapers_indic_final.proofs.FinalText.{text_fits}
use Rattle.shapers_indic_initial.proofs.FontPositions.{order_by_font_laws}
use Rattle.shapers_syllabic.specs.Circles.{circled}
use Rattle.shapers_syllabic.specs.Reordering.{text_steps}
use Rattle.shapers_syllabic.specs.ReorderingLaws.{ReorderLaws, paused_clusters}
use Rattle.shapers_syllabic.specs.declared.ot_shaper_syllabic.circles.DottedCircles.{DottedCircles}
use Rattle.shapers_syllabic.proofs.CircleLaws.{no_new_cluster}
use Rattle.shapers_syllabic.proofs.ReorderingLaws.{each_piece, sum-syllables, text_steps-long}
use Rattle.shapers_syllabic.proofs.ReorderingWalk.{pieces_of}
use Rattle.rustybuzz_shapers.specs.Monotone.{IndicKeepsHalves}
use Rattle.rustybuzz_shapers.specs.Pauses.{by_initial}

-- steps make no cluster
own : (level : BufferClusterLevel) (steps : List Step) (gs : Glyphs) → FitSteps (length gs) steps
    → All (Contains (clusters gs)) (joined_steps level steps (clusters gs))
own level steps gs fit =
    (all-joined_steps (Contains (clusters gs)) level (length gs) steps (clusters gs)
    (length-map gs (λ (g : Glyph). g.cluster)) fit (All-contains_itself (clusters gs))).1

paused_own : (circles : Option DottedCircles) (order : Glyphs → Glyphs)
    (steps : Glyphs → List Step) (level : BufferClusterLevel) (gs : Glyphs)
    → ReorderLaws order steps → All (Contains (clusters gs)) (paused_clusters circles steps level gs)
paused_own circles order steps level gs laws =
    let opened = circled circles gs in
    let sts = text_steps steps (order_view opened) in
    let are = clusters-after_steps level sts opened in
    subst (All (Contains (clusters gs))) are (no_new_cluster circles gs (after_steps level sts opened)
    (subst (All (Contains (clusters opened))) (sym are)
    (own level sts opened (
    let pieces = pieces_of steps (syllables (order_view opened)) in subst (FitSteps (length opened)) (sym
    (text_steps-long steps opened)) (along_holds level pieces opened (omega (
      arith,
      sum-syllables steps (order_view opened) ∙ length-map opened plain,
    )) (each_piece FitsStep steps laws.fits (syllables (order_view opened)))).fit))))

pub indic_keeps_halves : IndicKeepsHalves
indic_keeps_halves InitialReordering plan font spans old new indic k gs hs text border none =
    let r = by_initial plan font old in
    let laws = order_by_font_laws font plan.ot_map (indic_in plan) old.script in (
      paused_clusters r.circles r.steps old.level gs,
      (
        paused_clusters r.circles r.steps old.level hs,
        (
          (k.0.renumbered gs hs gs hs text border refl refl).in_clusters none,
          (
            paused_own r.circles r.order r.steps old.level gs laws,
            paused_own r.circles r.order r.steps old.level hs laws,
          ),
        ),
      ),
    )
indic_keeps_halves FinalReordering plan font spans old new indic k gs hs text border none =
    let r = final_rules font (indic_in plan) in
    let made = λ (xs : Glyphs). joined_steps old.level (final_text_steps r old.script xs)
    (clusters xs) in (
      made gs,
      (
        made hs,
        (
          (k.0.cuts gs hs text border).in_clusters none,
          (
            own old.level (final_text_steps r old.script gs) gs (text_fits r old.script old.level gs),
            own old.level (final_text_steps r old.script hs) hs (text_fits r old.script old.level hs),
          ),
        ),
      ),
    )
indic_keeps_halves _ plan font spans old new indic k gs hs text border none = absurd cc
