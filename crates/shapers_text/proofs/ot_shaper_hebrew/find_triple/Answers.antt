-- The turns of the search.
use Rattle.std.proofs.Common.{◌∙◌, sym, arith}
use Rattle.std.specs.Slice.Iter.{windows_rest}
use Rattle.shapers_text.proofs.HebrewLemmas.{short, triple_hit, triple_miss, triple_none, turn}
use Rattle.shapers_text.proofs.ot_shaper_hebrew.find_triple.Goals as goal

pub loop-triple-init : goal.loop-triple-init
loop-triple-init = search arith

pub returns-then-begins_triple-clause-first : goal.returns-then-begins_triple-clause-first
returns-then-begins_triple-clause-first = search (arith, triple_hit, turn)

pub returns-then-begins_triple-clause-within : goal.returns-then-begins_triple-clause-within
returns-then-begins_triple-clause-within = search arith

pub overflow_add-second-in-loop-triple : goal.overflow_add-second-in-loop-triple
overflow_add-second-in-loop-triple = search arith

pub loop-triple-preserved : goal.loop-triple-preserved
loop-triple-preserved = search (arith, triple_miss)

pub returns-clause-first : goal.returns-clause-first
returns-clause-first c =
    sym (triple_none (windows_rest c.loop-triple.triple-iterator) c.loop-triple.second (search (arith, short)))
    ∙ c.loop-triple.invariant.first
