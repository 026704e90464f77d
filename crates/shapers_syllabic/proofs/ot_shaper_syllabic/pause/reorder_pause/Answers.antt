use Rattle.shapers_syllabic.specs.Circles.{circled}
use Rattle.shapers_syllabic.specs.Reordering.{script_circles}
use Rattle.shapers_syllabic.proofs.CircleLaws.{no_new_cluster}
use Rattle.shapers_syllabic.proofs.LinkedSyllables.{text_moved}
use Rattle.shapers_syllabic.proofs.ReorderingCuts.{cuts_at_borders}
use Rattle.shapers_syllabic.proofs.ReorderingLaws.{text_reordered}
use Rattle.shapers_syllabic.proofs.ReorderingWalk.{pause_reordered}
use Rattle.shapers_syllabic.proofs.ot_shaper_syllabic.pause.reorder_pause.Goals as goal

pub returns-clause-ok : goal.returns-clause-ok
returns-clause-ok g c =
    let order = c.args.order.now in
    let old = c.args.buffer.now in
    let new = c.reorder_syllables_by_steps.new.buffer in
    let opened = c.insert.new.buffer in
    let meaning = g.R.Reorder.meaning order in
    let steps = g.R.ReorderBySteps.steps order in
    pause_reordered
    (script_circles c.args.script.now (g.F.hb_font_t.font c.args.face.now) old) meaning steps old opened new c.in_ok-circles.ensures.ok
    (text_moved meaning steps (g.R.Reorder.relation order) opened new (g.met.R.Reorder.permutes order)
    (g.met.R.ReorderBySteps.leads order) c.in_ok-reorder_syllables_by_steps.ensures.linked)

pub returns-clause-cut : goal.returns-clause-cut
returns-clause-cut g c =
    let order = c.args.order.now in
    let old = c.args.buffer.now in
    cuts_at_borders
    (script_circles c.args.script.now (g.F.hb_font_t.font c.args.face.now) old) (g.R.Reorder.meaning order old.script) (g.R.ReorderBySteps.steps order old.script) old
    c.reorder_syllables_by_steps.new.buffer (g.met.R.ReorderBySteps.laws order old.script) (returns-clause-ok g c)

pub returns-clause-laws : goal.returns-clause-laws
returns-clause-laws g c =
    let order = c.args.order.now in
    let old = c.args.buffer.now in
    let opened = record old {
      glyphs = circled (script_circles c.args.script.now (g.F.hb_font_t.font c.args.face.now) old) old.glyphs;
    } in
    text_reordered (g.R.Reorder.meaning order old.script) (g.R.ReorderBySteps.steps order old.script) opened
    c.reorder_syllables_by_steps.new.buffer (g.met.R.ReorderBySteps.laws order old.script) (returns-clause-ok g c)

pub returns-clause-clusters : goal.returns-clause-clusters
returns-clause-clusters g c =
    let circles = script_circles c.args.script.now (g.F.hb_font_t.font c.args.face.now) c.args.buffer.now in
    let law = returns-clause-laws g c in
    search no_new_cluster
