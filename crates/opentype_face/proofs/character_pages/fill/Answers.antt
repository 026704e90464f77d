use Rattle.std.proofs.Common.{arith}
use Rattle.opentype_face.proofs.PageTables.{filled_none, filled_page}
use Rattle.opentype_face.proofs.character_pages.fill.Goals as goal
use Rattle.opentype_face.proofs.character_pages.fill.Goals.{then-marks-page+then-made-most_pages+then-made-lt-NO_PAGE+in_ok-append_page+in_ok-push, else-marks-page+in_ok-push-2}

pub loop-page-preserved : goal.loop-page-preserved
loop-page-preserved c = elim c.if-marks-page.branch [
  | then-marks-page+then-made-most_pages+then-made-lt-NO_PAGE+in_ok-append_page+in_ok-push w ↦
      rw w.pages-is (rw w.glyphs-is (rw w.made-is (filled_page _ _ c.loop-page.pages.items c.loop-page.glyphs.items
      c.loop-page.made c.loop-page.page _ _ c.loop-page.invariant (omega arith) w.in_ok-append_page.ensures
      w.in_ok-push.ensures.items)))
  | else-marks-page+in_ok-push-2 w ↦
      rw w.pages-is (rw w.glyphs-is (rw w.made-is (filled_none _ _ c.loop-page.pages.items c.loop-page.glyphs.items
      c.loop-page.made c.loop-page.page _ c.loop-page.invariant w.in_ok-push-2.ensures.items)))
]
