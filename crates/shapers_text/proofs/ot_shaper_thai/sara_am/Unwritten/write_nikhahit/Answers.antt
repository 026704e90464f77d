-- The start, one more mark, and the NIKHAHIT.
use Rattle.std.proofs.Common.{◌-◌, ◌+◌, Some, refl, set, get_or, subst, ◌∙◌, arith}
use Rattle.shapers_buffer.specs.Glyph.{default_glyph}
use Rattle.shapers_text.specs.ThaiWalk.{rewritten_whole}
use Rattle.shapers_text.proofs.ThaiSaraAm.{MarksLeft, read_there, marks_fit, marks_next, marks_done}
use Rattle.shapers_text.proofs.ot_shaper_thai.sara_am.Unwritten.write_nikhahit.Goals as goal

pub loop-init : goal.loop-init
loop-init c =
    let gs = c.args.glyphs.now in
    let u = c.args.self.now in
    let marks = c.count_marks_before-above.result in
    let walk : MarksLeft (rewritten_whole gs u.end (Some c.args.nikhahit) u.place) gs u.end u.place (marks - 0)
    c.args.nikhahit = record {
      written = record { left = c.requires; joined = refl };
      left =
          (omega arith) ∙ c.count_marks_before-above.ensures.count;
    } in
    search (arith, marks_fit)

pub loop-preserved : goal.loop-preserved
loop-preserved c =
    let l = c.loop in
    let u = c.args.self.now in
    let marks = c.count_marks_before-above.result in
    let whole = rewritten_whole c.args.glyphs.now u.end (Some c.args.nikhahit) u.place in
    let glyph = get_or l.glyphs (l.self.end - 1) default_glyph in
    let now = set l.glyphs (l.self.place - 1) glyph in
    let step = marks_next whole l.glyphs l.self.end l.self.place (marks - l.counter) c.args.nikhahit glyph (omega (
      arith,
      c.loop-test.true,
    )) l.invariant.walk (read_there l.glyphs (l.self.end - 1) default_glyph (omega arith)) in
    let walk =
    subst (λ n. MarksLeft whole now (l.self.end - 1) (l.self.place - 1) n c.args.nikhahit) (omega arith) step in
    search (
      arith,
      marks_fit whole now (l.self.end - 1) (l.self.place - 1) (marks - (l.counter + 1)) c.args.nikhahit walk,
    )

pub returns-clause-written : goal.returns-clause-written
returns-clause-written c =
    let l = c.loop in
    let u = c.args.self.now in
    marks_done
    (rewritten_whole c.args.glyphs.now u.end (Some c.args.nikhahit) u.place) l.glyphs l.self.end l.self.place (c.count_marks_before-above.result - l.counter) c.args.nikhahit
    (omega (arith, c.loop-test.false)) l.invariant.walk
