-- A text without SARA AM stays.
use Rattle.std.proofs.Common.{arith}
use Rattle.shapers_buffer.proofs.ListLaws.{count_from_none}
use Rattle.shapers_text.proofs.ThaiStretches.{unchanged, length-glyphs_in_two}
use Rattle.shapers_text.proofs.ot_shaper_thai.sara_am.rewrite_sara_am.Goals as goal

pub returns-then-count-eq0-clause-ok : goal.returns-then-count-eq0-clause-ok
returns-then-count-eq0-clause-ok = search (arith, unchanged)

pub returns-then-count-eq0-clause-length : goal.returns-then-count-eq0-clause-length
returns-then-count-eq0-clause-length = search (arith, length-glyphs_in_two)

pub returns-clause-without : goal.returns-clause-without
returns-clause-without = search (arith, count_from_none)
