-- The next glyph: passed, or the first of those of its syllable that are left.
use Rattle.std.proofs.Common.{arith}
use Rattle.shapers_universal.proofs.SyllableWalks.{changed_first, passed_next}
use Rattle.shapers_universal.proofs.ot_shaper_use.syllable_walk.change_next.Goals as goal

pub returns-then-eq : goal.returns-then-eq
returns-then-eq = search (arith, passed_next)

pub returns : goal.returns
returns g c rest =
    let f = g.C.FrontChange.changed c.args.change.now in
    let glyph = c.args.glyph.now in
    search (arith, changed_first f c.requires glyph c.change.new.glyph c.change.result rest c.change.ensures)
