-- The stretch of the pair, where a break would tear it.
use Rattle.std.proofs.Common.{arith}
use Rattle.shapers_universal.proofs.TornPairs.{no_pair, pair_read}
use Rattle.shapers_universal.proofs.ot_shaper_use.forms.FormMasks.flag_pair.Goals as goal

pub returns-then-end-glyphs : goal.returns-then-end-glyphs
returns-then-end-glyphs = search (arith, no_pair)

pub returns-then-tears : goal.returns-then-tears
returns-then-tears c =
    let a = c.args in
    search (
      arith,
      pair_read a.self a.before a.start a.end c.first_syllable_len.result c.may_join-behind.result c.tears.result
          a.glyphs.now c.requires.in_order c.requires.in_range c.first_syllable_len.ensures.len
          c.may_join-behind.ensures c.tears.ensures,
    )

pub returns-else-tears : goal.returns-else-tears
returns-else-tears = search (arith, pair_read)
