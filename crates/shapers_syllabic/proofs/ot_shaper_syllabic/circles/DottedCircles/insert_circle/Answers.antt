use Rattle.std.proofs.Common.{◌+◌, arith}
use Rattle.shapers_syllabic.proofs.OpenedCircles.{Opening, opening_behind, opening_front}
use Rattle.shapers_syllabic.proofs.ot_shaper_syllabic.circles.DottedCircles.insert_circle.Goals as goal

opening_there : (c : goal.After-glyphs-2-1)
    → Opening c.args.self.now c.args.broken.start c.args.broken.end (c.args.broken.start + c.rephas_len.result)
    c.args.left c.args.glyphs.now c.move_up.new.glyphs c.move_up-2.new.glyphs
opening_there c =
    let p = c.args.broken.start + c.rephas_len.result in
    record {
      some = c.requires.some;
      in_order = c.requires.in_order;
      inside = search arith;
      rephas = search arith;
      within = c.requires.in_range;
      same_length = c.move_up.ensures.same_length;
      first_front = c.move_up.ensures.front;
      first_behind = c.move_up.ensures.behind;
      then_front = search arith;
      then_behind = search arith;
    }

pub returns-clause-front : goal.returns-clause-front
returns-clause-front = search (arith, opening_front)

pub returns-clause-behind : goal.returns-clause-behind
returns-clause-behind = search (arith, opening_behind)
