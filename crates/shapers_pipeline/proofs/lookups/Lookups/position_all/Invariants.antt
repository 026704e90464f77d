-- What is left to do, from the text that the lookups so far made.
use Rattle.std.proofs.Common.{◌≡◌, drop, length}
use Rattle.shapers_buffer.specs.Buffer.{Buffer}
use Rattle.shapers_buffer.specs.declared.buffer.refusal.ShaperError.{ShaperError}
use Rattle.shapers_pipeline.specs.Lookups.{StoppedIn, looked_up}
use Rattle.shapers_pipeline.proofs.lookups.Lookups.position_all.Given as goal

abbrev pub invariant-loop-lookup : goal.invariant-loop-lookup
invariant-loop-lookup g l =
    let f = g.Self.Lookups.positioned l.self in
    let refusals = g.Self.Lookups.positioning_refuses l.self in
    let rest = drop l.lookup-index l.list in
    record {
      paired : length l.buffer.positions ≡ length l.buffer.glyphs;
      done : looked_up f rest l.buffer ≡ looked_up f l.list l.initial.buffer;
      stopped : (new : Buffer) (e : ShaperError) → StoppedIn f refusals rest l.buffer new e
          → StoppedIn f refusals l.list l.initial.buffer new e;
    }
