use Rattle.std.proofs.Common.{◌≡◌, ◌+◌, ◌≤◌, length}
use Rattle.shapers_syllabic.specs.Circles.{count_of_kind}
use Rattle.shapers_syllabic.proofs.ot_shaper_syllabic.circles.DottedCircles.count.Given as goal

abbrev pub invariant-loop-broken : goal.invariant-loop-broken
invariant-loop-broken l = record {
  counted : l.count + count_of_kind l.self.broken_kind l.rest ≡ count_of_kind l.self.broken_kind l.text;
  few : l.count + length l.rest ≤ length l.text;
}

abbrev pub decreases-loop-broken : goal.decreases-loop-broken
decreases-loop-broken l = length l.rest
