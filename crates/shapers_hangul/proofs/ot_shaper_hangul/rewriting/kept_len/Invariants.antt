-- All items so far are kept.
use Rattle.std.proofs.Common.{◌-◌, length}
use Rattle.shapers_hangul.specs.RewritingWalk.{KeptBefore}
use Rattle.shapers_hangul.proofs.ot_shaper_hangul.rewriting.kept_len.Given as goal

abbrev pub invariant-loop-place : goal.invariant-loop-place
invariant-loop-place g l = KeptBefore (g.F.hb_font_t.font l.font) l.circles l.glyphs l.place

abbrev pub decreases-loop-place : goal.decreases-loop-place
decreases-loop-place g l = length l.glyphs - l.place
