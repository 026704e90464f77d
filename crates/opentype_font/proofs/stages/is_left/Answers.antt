-- A lookup that is known to begin nowhere leaves the text as it is.
use Rattle.std.proofs.Common.{sym}
use Rattle.opentype_font.proofs.Absent.{known_left}
use Rattle.opentype_font.proofs.stages.is_left.Goals as goal

pub returns-then-seen-clause-same : goal.returns-then-seen-clause-same
returns-then-seen-clause-same c = λ yes. known_left _ _ _ _ c.args.seen.now.present
    (c.requires.absent c.if-seen.true) (c.is_absent.ensures c.if-not-is_absent.false)

pub returns-clause-same : goal.returns-clause-same
returns-clause-same c = λ yes. known_left _ _ _ _ c.present-seen.result
    (rw (sym c.gsub.ensures, sym c.glyphs.ensures) c.present-seen.ensures) (c.is_absent-2.ensures yes)
