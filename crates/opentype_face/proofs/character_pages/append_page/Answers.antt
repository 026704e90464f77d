use Rattle.opentype_face.proofs.PageTables.{appended_next, appended_start}
use Rattle.opentype_face.proofs.character_pages.append_page.Goals as goal

pub loop-k-init : goal.loop-k-init
loop-k-init c = appended_start _ _ _ _

pub loop-k-preserved : goal.loop-k-preserved
loop-k-preserved c = appended_next _ _ _ _ _ _ _ _ c.loop-k.invariant c.number_of.ensures c.in_ok-push.ensures.items
