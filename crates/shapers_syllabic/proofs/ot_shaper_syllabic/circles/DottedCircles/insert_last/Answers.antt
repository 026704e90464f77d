use Rattle.std.proofs.Common.{arith}
use Rattle.shapers_syllabic.proofs.OpenedCircles.{is_opened}
use Rattle.shapers_syllabic.proofs.ot_shaper_syllabic.circles.DottedCircles.insert_last.Goals as goal

pub returns : goal.returns
returns c =
    is_opened c.args.self.now c.args.read c.args.left c.last_broken-broken.result.start c.last_broken-broken.result.end
    c.args.glyphs.now c.move_up.new.glyphs c.insert_circle.new.glyphs (search arith)
