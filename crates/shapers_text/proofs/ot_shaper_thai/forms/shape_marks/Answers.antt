-- The start, one more character, and the marks of the last base.
use Rattle.std.proofs.Common.{arith}
use Rattle.std.proofs.lemmas.List.{get_or-map}
use Rattle.shapers_base.specs.Font.{has_nominal}
use Rattle.shapers_text.proofs.ThaiFormWalks.{walking_none, walking_next, walking_all}
use Rattle.shapers_text.proofs.ot_shaper_thai.forms.shape_marks.Goals as goal

pub loop-i-init : goal.loop-i-init
loop-i-init = search (arith, walking_none)

pub loop-i-preserved : goal.loop-i-preserved
loop-i-preserved = search (arith, walking_next, get_or-map)

pub returns : goal.returns
returns g c =
    let l = c.loop-i in
    search (
      arith,
      walking_all (has_nominal (g.F.hb_font_t.font c.args.font.now)) c.args.glyphs.now l.glyphs l.i l.base
          (omega arith) l.invariant,
    )
