use Rattle.std.proofs.Common.{◌-◌, ◌≤◌, drop, length}
use Rattle.std.specs.Prelude.{vec_capacity}
use Rattle.shapers_spans.specs.Joined.{KnowsJoiners}
use Rattle.shapers_spans.specs.Watch.{IsWatched}
use Rattle.shapers_spans.proofs.FoundSpans.{Found}
use Rattle.shapers_spans.proofs.spans.spans_into_counted.Given as goal

abbrev pub invariant-loop-start : goal.invariant-loop-start
invariant-loop-start g l = record {
  capacity : vec_capacity l.initial.spans ≤ vec_capacity l.spans;
  found : Found (g.M.Machine.grammar l.machine) l.glyphs l.start l.spans.items;
  joined : KnowsJoiners (g.M.Machine.grammar l.machine).passes (g.M.Machine.is_joiner l.machine)
      (g.M.Machine.ends l.machine) (drop l.start l.glyphs) (l.joiners.end - l.start) l.joiners.stuck;
  counted : IsWatched (g.M.Machine.grammar l.machine).passes (g.M.Machine.cycled l.machine) (drop l.start l.glyphs)
      (l.joiners.end - l.start) l.joiners.stuck l.initial.count.reads l.count;
}

abbrev pub decreases-loop-start : goal.decreases-loop-start
decreases-loop-start g l = length l.glyphs - l.start
