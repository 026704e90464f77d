use Rattle.opentype_gpos.proofs.KernQuiet.{flagged_left}
use Rattle.opentype_gpos.proofs.kern_lefts.kern_by_lefts.Goals as goal

pub returns : goal.returns
returns c = flagged_left _ _ _ _ _ _ _ c.lefts.view_is c.lefts.invariant c.requires (cc)
    c.len-len.ensures.length c.unsafe_to_concat.ensures
