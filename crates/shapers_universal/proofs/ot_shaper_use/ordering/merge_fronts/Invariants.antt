-- What is left to merge.
use Rattle.shapers_universal.specs.Proved.UniversalFronts.{Merging}
use Rattle.shapers_universal.proofs.ot_shaper_use.ordering.merge_fronts.Given as goal

abbrev pub invariant-loop-i : goal.invariant-loop-i
invariant-loop-i l = Merging l.start l.behind l.end l.front l.i l.pending l.initial.buffer l.buffer
