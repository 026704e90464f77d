-- What is unlaid, stretched, and what is laid behind it, is the whole: the writer never overtakes the reader.
use Rattle.shapers_stretch.specs.LayingWalk.{IsLaidFrom, laying_by, text_in_slices}
use Rattle.shapers_stretch.specs.Stretch.{stretched}
use Rattle.shapers_stretch.proofs.ot_shaper_arabic_stretch.tiles.TileLaying.lay_all.Given as goal

abbrev pub invariant-loop-unlaid : goal.invariant-loop-unlaid
invariant-loop-unlaid g l =
    let how = laying_by (g.F.hb_font_t.font l.self.font.now) l.self.choice l.self.right_to_left in
    IsLaidFrom how (stretched how (text_in_slices l.self.len l.initial.glyphs l.initial.positions)) l.glyphs l.positions
    l.unlaid.end l.unlaid.place

abbrev pub decreases-loop-unlaid : goal.decreases-loop-unlaid
decreases-loop-unlaid g l = l.unlaid.end
