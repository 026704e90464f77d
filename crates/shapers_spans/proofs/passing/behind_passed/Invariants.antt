use Rattle.std.proofs.Common.{◌≡◌, drop, ◌+◌}
use Rattle.shapers_spans.specs.Grammar.{reach_of}
use Rattle.shapers_spans.specs.Passing.{begins_passed}
use Rattle.shapers_spans.proofs.passing.behind_passed.Given as goal

abbrev pub invariant-loop-place : goal.invariant-loop-place
invariant-loop-place l = l.n + reach_of begins_passed (drop l.n l.glyphs) 0
    ≡ l.place + reach_of begins_passed (drop l.place l.glyphs) 0
