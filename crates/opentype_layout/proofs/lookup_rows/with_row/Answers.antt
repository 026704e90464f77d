use Rattle.std.proofs.Common.{arith}
use Rattle.opentype_layout.proofs.RowMarks.{or_end, or_row}
use Rattle.opentype_layout.proofs.lookup_rows.with_row.Goals as goal

pub returns-then-at-words-clause-kept : goal.returns-then-at-words-clause-kept
returns-then-at-words-clause-kept c = λ index few off. (or_end c.args.bits.low c.args.bits.high c.args.words.now c.args.glyph _
    index (omega arith) few (omega arith) (rw c.word_at.ensures at off)).0

pub returns-then-at-words-clause-row : goal.returns-then-at-words-clause-row
returns-then-at-words-clause-row c = λ index few off. (or_end c.args.bits.low c.args.bits.high c.args.words.now c.args.glyph _
    index (omega arith) few (omega arith) (rw c.word_at.ensures at off)).1

pub returns-clause-kept : goal.returns-clause-kept
returns-clause-kept c = λ index few off. (or_row c.args.bits.low c.args.bits.high c.args.words.now c.args.glyph _ index
    (omega arith) few off).0

pub returns-clause-row : goal.returns-clause-row
returns-clause-row c = λ index few off. (or_row c.args.bits.low c.args.bits.high c.args.words.now c.args.glyph _ index
    (omega arith) few off).1
