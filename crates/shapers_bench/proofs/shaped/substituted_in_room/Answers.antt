use Rattle.std.proofs.Common.{◌≤◌, arith, length, subst, sym}
use Rattle.shapers_buffer.specs.Buffer.{Buffer}
use Rattle.shapers_buffer.specs.Properties.{no_marks}
use Rattle.shapers_pipeline.specs.Planned.{as_planned}
use Rattle.shapers_pipeline.specs.Singles.{singles_applied}
use Rattle.shapers_pipeline.specs.Substituted.{preparation_by, substitution_by}
use Rattle.shapers_pipeline.specs.Lengths.{shaped_bound}
use Rattle.shapers_bench.proofs.ShapedWords.{growing, keeping, word-least, word-length}
use Rattle.shapers_bench.proofs.shaped.substituted_in_room.Goals as goal

pub buffer_with_room-requires-clause-room : goal.buffer_with_room-requires-clause-room
buffer_with_room-requires-clause-room g c =
    let plan = c.args.plan.now in
    let least = word-least plan.shaper plan.lookups plan.stages (length c.args.word.now) in
    omega (arith, least, c.length_bound-room.ensures, c.requires.short)

pub returns-clause-length : goal.returns-clause-length
returns-clause-length g c =
    let plan = c.args.plan.now in
    let law = c.pipeline_lengths_law.ensures in
    let run = c.in_ok-substitute_text.ensures.ok in
    let old = c.in_ok-buffer.buffer in
    let bound = shaped_bound plan.shaper (λ lookup. 1) plan.lookups plan.stages in
    let singles = c.args.singles.now in
    let font = g.F.hb_font_t.font c.args.font.now in
    let p = preparation_by plan c.args.settings.now font (g.F.NormalizeFont.variants c.args.font.now)
    (g.T.UnicodeProperties.properties c.args.tables.now) (g.T.Tables.tables c.args.tables.now)
    (g.T.NormalizeTables.texts c.args.tables.now) in
    let r = substitution_by plan font (singles_applied singles) in
    let few = word-length law.preparation law.stages p (λ h. no_marks) r plan.stages
    (as_planned plan.plan.script plan.direction old) run.0 (keeping singles) (growing singles)
    c.in_ok-buffer.ensures.unplaced run.1.0 in
    subst (λ n. length c.substitute_text.new.buffer.glyphs ≤ bound n) c.in_ok-buffer.ensures.filled
    (subst (λ (b : Buffer). length b.glyphs ≤ bound (length old.glyphs)) (sym run.1.1) few)
