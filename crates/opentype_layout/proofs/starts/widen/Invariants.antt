use Rattle.std.proofs.Common.{◌≤◌}
use Rattle.opentype_layout.proofs.starts.widen.Given as goal

abbrev pub invariant-loop-i : goal.invariant-loop-i
invariant-loop-i l = (l.span.from ≤ l.fn.span.from) × (l.fn.span.to ≤ l.span.to)
