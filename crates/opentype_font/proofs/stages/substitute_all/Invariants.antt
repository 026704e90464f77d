-- What is left to do, from the text that the lookups so far made.
use Rattle.std.proofs.Common.{◌≡◌, [], drop}
use Rattle.shapers_buffer.specs.Buffer.{Buffer}
use Rattle.shapers_buffer.specs.declared.buffer.refusal.ShaperError.{ShaperError}
use Rattle.shapers_pipeline.specs.Lookups.{StoppedIn, looked_up}
use Rattle.opentype_font.specs.Lookups.{may_lack_memory, substituted_by}
use Rattle.opentype_font.specs.Presence.{AreSeen}
use Rattle.opentype_font.proofs.stages.substitute_all.Given as goal

abbrev pub invariant-loop-lookup : goal.invariant-loop-lookup
invariant-loop-lookup l =
    let f = substituted_by l.tables.face.gdef.now l.tables.face.gsub.now in
    let rest = drop l.lookup-index l.list in
    record {
      positions : l.buffer.positions ≡ [];
      seen : AreSeen l.tables.face.gsub.now l.seen l.buffer.glyphs;
      done : looked_up f rest l.buffer ≡ looked_up f l.list l.initial.buffer;
      stopped : (new : Buffer) (e : ShaperError) → StoppedIn f may_lack_memory rest l.buffer new e
          → StoppedIn f may_lack_memory l.list l.initial.buffer new e;
    }
