use Rattle.std.proofs.Common.{◌∙◌, arith, sym}
use Rattle.shapers_choice.proofs.OwnScripts.{own-apart}
use Rattle.shapers_choice.proofs.own_or_universal.Goals as goal

pub returns-in-Some : goal.returns-in-Some
returns-in-Some c =
    rw (own-apart c.args.script c.in-Some.shaper (sym c.own_for.ensures ∙ c.in-Some.is)) (search arith)
