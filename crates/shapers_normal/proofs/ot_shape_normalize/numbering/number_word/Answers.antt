-- A word that gets its numbers is whole.
use Rattle.std.proofs.Common.{arith}
use Rattle.shapers_normal.proofs.NumberedWords.{numbered_joiners, numbered_stay, numbers_as_many, numbers_written}
use Rattle.shapers_normal.proofs.ot_shape_normalize.numbering.number_word.Goals as goal

pub with_glyphs_mut-requires : goal.with_glyphs_mut-requires
with_glyphs_mut-requires g c = search (arith, numbers_as_many)

pub returns-clause-word : goal.returns-clause-word
returns-clause-word g c =
    let context = g.C.NormalizeContext.context c.args.context.now in
    let gs = c.args.buffer.now.glyphs in
    let ns = c.in-Some.numbers.items in
    search (
      arith,
      numbered_stay context ns gs,
      numbered_joiners context ns gs,
      numbers_written context ns gs,
      numbers_as_many context ns gs,
    )
