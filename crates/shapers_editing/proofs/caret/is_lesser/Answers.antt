use Rattle.std.specs.Prelude.{None, Some}
use Rattle.shapers_editing.proofs.Carets.{tells}
use Rattle.shapers_editing.proofs.caret.is_lesser.Goals as goal

pub returns-in-Some : goal.returns-in-Some
returns-in-Some c behind e = tells c.args.cluster behind c.args.stops.now
    (Some c.in-Some.least.now) c.in-Some.ensures.value e

pub returns-in-None : goal.returns-in-None
returns-in-None c behind e = tells c.args.cluster behind c.args.stops.now None c.in-None.ensures.value e
