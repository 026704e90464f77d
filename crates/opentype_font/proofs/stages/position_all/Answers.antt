-- One more lookup.
use Rattle.std.proofs.Common.{◌∙◌, ◌<◌, arith, length}
use Rattle.shapers_pipeline.proofs.StageLengths.{looked_next}
use Rattle.opentype_font.specs.Lookups.{positioned_by}
use Rattle.opentype_font.proofs.Absent.{still_known, still_paired}
use Rattle.opentype_font.proofs.stages.position_all.Goals as goal

pub loop-lookup-preserved : goal.loop-lookup-preserved
loop-lookup-preserved c =
    let l = c.loop-lookup in
    let gdef = c.args.tables.now.face.gdef.now in
    let gpos = c.args.tables.now.face.gpos.now in
    let list = c.args.list.now in
    let within : l.lookup-index < length list = omega (arith, c.loop-lookup-test.true) in
    let is = c.position_present.ensures in
    record {
      paired = still_paired gdef gpos _ _ l.buffer _ is l.invariant.paired;
      absent = still_known gdef gpos _ _ l.buffer _ _ is l.invariant.absent;
      done = looked_next (positioned_by gdef gpos) list l.lookup-index _ l.buffer _ within is ∙ l.invariant.done;
    }
