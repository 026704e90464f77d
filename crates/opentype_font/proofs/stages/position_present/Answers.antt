-- A lookup that is known to begin nowhere moves nothing.
use Rattle.std.proofs.Common.{sym}
use Rattle.opentype_font.proofs.Absent.{known_unmoved}
use Rattle.opentype_font.proofs.stages.position_present.Goals as goal

pub returns-then-is_absent : goal.returns-then-is_absent
returns-then-is_absent c = sym (known_unmoved _ _ c.args.lookup.now _ c.args.present c.requires.paired c.requires.absent
    (c.is_absent.ensures c.if-is_absent.true))
