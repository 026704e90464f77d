-- What is left to do, from the text that the lookups so far made.
use Rattle.std.proofs.Common.{◌≡◌, ◌≤◌, [], drop, length}
use Rattle.shapers_buffer.specs.Buffer.{Buffer}
use Rattle.shapers_buffer.specs.declared.buffer.refusal.ShaperError.{ShaperError}
use Rattle.shapers_pipeline.specs.Lengths.{looked_up_bound}
use Rattle.shapers_pipeline.specs.Lookups.{StoppedIn, looked_up}
use Rattle.shapers_pipeline.proofs.lookups.Lookups.substitute_all.Given as goal

abbrev pub invariant-loop-lookup : goal.invariant-loop-lookup
invariant-loop-lookup g l =
    let f = g.Self.Lookups.substituted l.self in
    let growth = g.Self.Lookups.growth_of l.self in
    let refusals = g.Self.Lookups.substituting_refuses l.self in
    let rest = drop l.lookup-index l.list in
    record {
      positions : l.buffer.positions ≡ [];
      limit : l.buffer.max_len ≡ l.initial.buffer.max_len;
      few : looked_up_bound growth rest (length l.buffer.glyphs)
          ≤ looked_up_bound growth l.list (length l.initial.buffer.glyphs);
      done : looked_up f rest l.buffer ≡ looked_up f l.list l.initial.buffer;
      stopped : (new : Buffer) (e : ShaperError) → StoppedIn f refusals rest l.buffer new e
          → StoppedIn f refusals l.list l.initial.buffer new e;
    }
