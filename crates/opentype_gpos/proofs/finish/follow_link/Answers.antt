use Rattle.opentype_gpos.proofs.Following.{one_link}
use Rattle.opentype_gpos.proofs.finish.follow_link.Goals as goal

pub returns-then-is_loose : goal.returns-then-is_loose
returns-then-is_loose c = one_link _ _ _ _ c.in-Some.link _ _ c.requires c.attachment_of.ensures.value c.in-Some.is (cc)
    c.let_go.ensures c.place_on.ensures
