-- One more character that stays.
use Rattle.std.proofs.Common.{arith}
use Rattle.shapers_hangul.proofs.Changes.{kept_next}
use Rattle.shapers_hangul.proofs.ot_shaper_hangul.rewriting.kept_len.Goals as goal

pub loop-place-preserved : goal.loop-place-preserved
loop-place-preserved g c =
    kept_next (g.F.hb_font_t.font c.args.font.now) c.args.circles
    c.args.glyphs.now c.loop-place.place c.loop-place-test.true (search arith) c.loop-place.invariant
