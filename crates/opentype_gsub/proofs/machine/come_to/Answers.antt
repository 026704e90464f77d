use Rattle.std.proofs.Common.{arith, refl}
use Rattle.opentype_gsub.proofs.Machines.{came_by, came_out}
use Rattle.opentype_gsub.proofs.machine.come_to.Goals as goal

pub returns-then-at-len : goal.returns-then-at-len
returns-then-at-len c = (came_out _ _ _ _ _ (omega arith), (refl, refl))

pub returns : goal.returns
returns c = came_by _ _ _ _ _ _ _ c.seen_from-seen.result _ (omega arith)
    (c.seen_from-seen.ensures c.args.lookup.now c.requires) c.come_among.ensures
