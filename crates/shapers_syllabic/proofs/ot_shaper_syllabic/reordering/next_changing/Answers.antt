-- A glyph that may change its syllable, or none.
use Rattle.std.proofs.Common.{arith}
use Rattle.shapers_syllabic.proofs.Skipping.{next_found, none_found}
use Rattle.shapers_syllabic.proofs.ot_shaper_syllabic.reordering.next_changing.Goals as goal

pub returns-in_err-count : goal.returns-in_err-count
returns-in_err-count = search (arith, none_found)

pub returns : goal.returns
returns g c =
    next_found (g.M.MayChange.changes c.args.order.now) c.args.start c.in_ok-count.count c.args.glyphs.now
    c.syllable_start.result c.in_ok-count.ensures c.syllable_start.ensures.from c.syllable_start.ensures.to
    c.syllable_start.ensures.together c.syllable_start.ensures.border
