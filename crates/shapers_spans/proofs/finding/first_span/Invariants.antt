use Rattle.std.proofs.Common.{length, ◌-◌}
use Rattle.shapers_spans.proofs.Walking.{Ways, Task, Walking}
use Rattle.shapers_spans.proofs.finding.first_span.Given as goal

abbrev pub invariant-loop-n : goal.invariant-loop-n
invariant-loop-n g l =
    let w : Ways = record {
      grammar = g.M.Machine.grammar l.machine;
      ends = g.M.Machine.ends l.machine;
      first = g.M.Machine.first l.machine;
      is_joiner = g.M.Machine.is_joiner l.machine;
      rank = g.M.Machine.rank l.machine;
      waits = g.M.Machine.waits l.machine;
      cycles = g.M.Machine.cycles l.machine;
      begun = g.M.Machine.begun l.machine;
      cycled = g.M.Machine.cycled l.machine;
    } in
    let t : Task =
    record {
      ways = w;
      gs = l.glyphs;
      len = l.initial.joiners.end - l.start;
      stuck = l.initial.joiners.stuck;
      watch = l.initial.count;
    } in
    record {
      state : g.M.Machine.is_state l.machine l.state;
      walking : Walking t l.n l.state l.span (l.joiners.end - l.start) l.joiners.stuck l.count;
    }

abbrev pub decreases-loop-n : goal.decreases-loop-n
decreases-loop-n g l = length l.glyphs - l.n
