-- What is left to do, from the text that the lookups so far made.
use Rattle.std.proofs.Common.{◌≡◌, true, drop, length}
use Rattle.std.specs.Prelude.{IfSome}
use Rattle.shapers_pipeline.specs.Lookups.{looked_up}
use Rattle.opentype_layout.specs.LookupRows.{AreAbsent}
use Rattle.opentype_font.specs.Lookups.{positioned_by}
use Rattle.opentype_font.proofs.stages.position_all.Given as goal

abbrev pub invariant-loop-lookup : goal.invariant-loop-lookup
invariant-loop-lookup l =
    let gpos = l.tables.face.gpos.now in
    let f = positioned_by l.tables.face.gdef.now gpos in
    record {
      paired : length l.buffer.positions ≡ length l.buffer.glyphs;
      absent : IfSome l.present (λ bits. AreAbsent true gpos bits l.buffer.glyphs);
      done : looked_up f (drop l.lookup-index l.list) l.buffer ≡ looked_up f l.list l.initial.buffer;
    }
