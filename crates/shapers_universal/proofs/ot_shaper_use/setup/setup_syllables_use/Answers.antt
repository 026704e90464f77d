use Rattle.std.proofs.Common.{arith}
use Rattle.std.proofs.Common.{subst, sym, ◌∙◌, ap}
use Rattle.shapers_buffer.specs.Buffer.{Buffer}
use Rattle.shapers_clusters.proofs.FlagLaw.{all_added_on}
use Rattle.shapers_syllabic.proofs.SetupFlags.{setup_added}
use Rattle.shapers_universal.specs.UniversalCuts.{UniversalSetupCutsAtSpans}
use Rattle.shapers_universal.specs.UniversalSyllables.{with_forms_flagged, with_syllable_masks}
use Rattle.shapers_universal.proofs.TornPairs.{map-forms_flagged}
use Rattle.shapers_universal.proofs.UniversalCuts.{clusters-masks, universal_setup_cuts}
use Rattle.shapers_universal.proofs.ot_shaper_use.setup.setup_syllables_use.Goals as goal

-- what the law says of the buffer that the definition names
pub returns-clause-cut : goal.returns-clause-cut
returns-clause-cut c =
    let kept = c.args.plan.now.plan_data in
    let m = c.args.plan.now.ot_map in
    let spans = c.args.spans.now in
    let old = c.args.buffer.now in
    let breaks = c.args.plan.now.break_flags in
    let masked : Buffer → Buffer = λ b. record b { glyphs = with_syllable_masks kept m b.glyphs } in
    subst (UniversalSetupCutsAtSpans breaks kept m spans old) (sym (c.set_masks.ensures.masks
    ∙ ap (λ b. with_forms_flagged breaks kept m (masked b)) c.in_ok-setup_syllables.ensures.ok))
    (universal_setup_cuts breaks kept m spans old c.requires.kinds)

-- masks change no cluster
pub returns-clause-clusters : goal.returns-clause-clusters
returns-clause-clusters = search (arith, map-forms_flagged, clusters-masks)

-- the spans only add flags, and so do the masks
pub returns-clause-flags : goal.returns-clause-flags
returns-clause-flags c =
    all_added_on c.args.buffer.now.glyphs c.setup_syllables.new.buffer.glyphs c.set_masks.new.buffer.glyphs
    (search (arith, setup_added)) c.set_masks.ensures.flags
