-- What the pause promises, by the plan's data.
use Rattle.std.proofs.Common.{arith}
use Rattle.shapers_indic.specs.Plan.{indic_in}
use Rattle.shapers_indic_initial.specs.InitialPause.{initial_circles, order_by_font, steps_by_font}
use Rattle.shapers_indic_initial.proofs.FontCircles.{initially_linked, linked_behind_circles, paused_by_font}
use Rattle.shapers_indic_initial.proofs.FontPositions.{laws_by_font}
use Rattle.shapers_indic_initial.proofs.TextClusters.{initial_text_merges}
use Rattle.shapers_syllabic.specs.Circles.{circled}
use Rattle.shapers_syllabic.proofs.CircleLaws.{no_new_cluster}
use Rattle.shapers_syllabic.proofs.ReorderingCuts.{cuts_at_borders}
use Rattle.shapers_syllabic.proofs.ReorderingLaws.{text_reordered}
use Rattle.shapers_syllabic.proofs.LinkedSyllables.{takes_any}
use Rattle.shapers_indic_initial.proofs.ot_shaper_indic_initial.pause.initial_reordering.Goals as goal

pub reorder_syllables_by_steps-requires-clause-takes : goal.reorder_syllables_by_steps-requires-clause-takes
reorder_syllables_by_steps-requires-clause-takes = search (arith, takes_any)

pub returns-clause-linked : goal.returns-clause-linked
returns-clause-linked g c =
    linked_behind_circles (g.F.hb_font_t.font c.args.face.now) c.args.plan.now.ot_map (indic_in c.args.plan.now)
    c.indic_in.result.now c.args.buffer.now c.insert.new.buffer c.update_consonant_positions.new.buffer
    c.reorder_syllables_by_steps.new.buffer c.indic_in.ensures c.in_ok-circles.ensures.ok c.update_consonant_positions.ensures
    c.in_ok-reorder_syllables_by_steps.ensures.linked

pub returns-clause-ok : goal.returns-clause-ok
returns-clause-ok = search (initially_linked, returns-clause-linked)

pub returns-clause-syllables : goal.returns-clause-syllables
returns-clause-syllables = search (paused_by_font, returns-clause-ok)

pub returns-clause-cut : goal.returns-clause-cut
returns-clause-cut g c =
    let font = g.F.hb_font_t.font c.args.face.now in
    let m = c.args.plan.now.ot_map in
    let p = indic_in c.args.plan.now in
    let b = c.args.buffer.now in
    cuts_at_borders (initial_circles font b) (order_by_font font m p b.script) (steps_by_font font m p b.script) b
    c.reorder_syllables_by_steps.new.buffer (search laws_by_font) (returns-clause-syllables g c)

pub returns-clause-laws : goal.returns-clause-laws
returns-clause-laws g c =
    let font = g.F.hb_font_t.font c.args.face.now in
    let m = c.args.plan.now.ot_map in
    let p = indic_in c.args.plan.now in
    let b = c.args.buffer.now in
    text_reordered (order_by_font font m p b.script) (steps_by_font font m p b.script)
    (record b { glyphs = circled (initial_circles font b) b.glyphs })
    c.reorder_syllables_by_steps.new.buffer (search laws_by_font) (returns-clause-syllables g c)

pub returns-clause-merged : goal.returns-clause-merged
returns-clause-merged = search (initial_text_merges, returns-clause-ok)

pub returns-clause-clusters : goal.returns-clause-clusters
returns-clause-clusters g c = let law = returns-clause-laws g c in search no_new_cluster
