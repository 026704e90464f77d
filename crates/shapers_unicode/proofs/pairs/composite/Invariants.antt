use Rattle.std.proofs.Common.{◌≡◌, ◌-◌, ◌≤◌, length, drop}
use Rattle.shapers_unicode.specs.Pairs.{paired_with, primary_composite}
use Rattle.shapers_unicode.proofs.pairs.composite.Given as goal

abbrev pub invariant-loop-i : goal.invariant-loop-i
invariant-loop-i l = (l.i ≤ length l.pairs) × (paired_with l.b (drop l.i l.pairs) ≡ primary_composite l.fn.a l.b)

abbrev pub decreases-loop-i : goal.decreases-loop-i
decreases-loop-i l = length l.pairs - l.i
