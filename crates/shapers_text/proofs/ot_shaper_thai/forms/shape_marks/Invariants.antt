-- The forms and flags so far, and the text that is left.
use Rattle.shapers_base.specs.Font.{has_nominal}
use Rattle.shapers_text.proofs.ThaiFormWalks.{Walking}
use Rattle.shapers_text.proofs.ot_shaper_thai.forms.shape_marks.Given as goal

abbrev pub invariant-loop-i : goal.invariant-loop-i
invariant-loop-i g l = Walking (has_nominal (g.F.hb_font_t.font l.font)) l.initial.glyphs l.glyphs l.i l.base
