-- What is left of the way along the cycle.
use Rattle.std.proofs.Common.{◌≡◌, ◌-◌, ◌<◌, ◌≤◌, length}
use Rattle.shapers_indic_initial.specs.CycleWalk.{places_from}
use Rattle.shapers_indic_initial.proofs.CycleSteps.{Passing}
use Rattle.shapers_indic_initial.proofs.ot_shaper_indic_initial.cycles.spend_cycle.Given as goal

abbrev pub invariant-loop : goal.invariant-loop
invariant-loop l = record {
  from : l.start ≤ l.counter;
  others : l.buffer ≡ record l.fn.buffer { places = l.buffer.places };
  long : length l.buffer.glyphs ≡ length l.fn.buffer.glyphs;
  inside : l.place < l.end - l.start;
  passing : Passing (places_from l.start l.end l.fn.buffer.places) l.first (places_from l.start l.end l.buffer.places)
      l.place (l.end - l.counter) l.least l.greatest;
}
