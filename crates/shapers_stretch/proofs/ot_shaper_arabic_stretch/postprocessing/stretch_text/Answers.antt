use Rattle.std.proofs.Common.{arith}
use Rattle.std.proofs.Common.{Some, length}
use Rattle.shapers_stretch.specs.CountingWalk.{CountsAdded}
use Rattle.shapers_stretch.specs.LayingWalk.{laying_by}
use Rattle.shapers_stretch.specs.Stretch.{cells}
use Rattle.shapers_stretch.proofs.Zips.{length-zipped}
use Rattle.shapers_stretch.proofs.Postprocessing.{stretched_buffer, counted_in, has_room_in, refuses_counted}
use Rattle.shapers_stretch.proofs.ot_shaper_arabic_stretch.postprocessing.stretch_text.Goals as goal

pub walk_positioned-requires : goal.walk_positioned-requires
walk_positioned-requires g c =
    let how = laying_by (g.F.hb_font_t.font c.args.font.now) c.args.choice c.args.right_to_left in
    let b = c.args.buffer.now in
    let counted : CountsAdded how (cells b) (Some c.in-Some.added) =
    counted_in b how c.glyphs-glyphs.result.now c.positions-positions.result.now (Some c.in-Some.added)
    c.glyphs-glyphs.ensures c.positions-positions.ensures c.in-Some.ensures in
    has_room_in b c.make_room.new.buffer how c.in-Some.added c.len-len.result c.in-Ok.ensures.ok
    c.len-len.ensures.length c.requires.positions c.requires.numbers counted

pub returns-in-Ok-clause-ok : goal.returns-in-Ok-clause-ok
returns-in-Ok-clause-ok g c =
    let how = laying_by (g.F.hb_font_t.font c.args.font.now) c.args.choice c.args.right_to_left in
    let b = c.args.buffer.now in
    let counted : CountsAdded how (cells b) (Some c.in-Some.added) =
    counted_in b how c.glyphs-glyphs.result.now c.positions-positions.result.now (Some c.in-Some.added)
    c.glyphs-glyphs.ensures c.positions-positions.ensures c.in-Some.ensures in
    search (arith, stretched_buffer b how c.in-Some.added c.walk_positioned.new.self c.requires.positions counted)

pub returns-in-Ok-clause-refusal : goal.returns-in-Ok-clause-refusal
returns-in-Ok-clause-refusal g c =
    let how = laying_by (g.F.hb_font_t.font c.args.font.now) c.args.choice c.args.right_to_left in
    let b = c.args.buffer.now in
    let counted : CountsAdded how (cells b) (Some c.in-Some.added) =
    counted_in b how c.glyphs-glyphs.result.now c.positions-positions.result.now (Some c.in-Some.added)
    c.glyphs-glyphs.ensures c.positions-positions.ensures c.in-Some.ensures in
    refuses_counted how (cells b) c.in-Some.added (length b.glyphs) b.max_len _ counted
    (search (arith, length-zipped)) c.in-Ok.ensures.length

pub returns-in-Err-clause-refusal : goal.returns-in-Err-clause-refusal
returns-in-Err-clause-refusal g c =
    let how = laying_by (g.F.hb_font_t.font c.args.font.now) c.args.choice c.args.right_to_left in
    let b = c.args.buffer.now in
    let counted : CountsAdded how (cells b) (Some c.in-Some.added) =
    counted_in b how c.glyphs-glyphs.result.now c.positions-positions.result.now (Some c.in-Some.added)
    c.glyphs-glyphs.ensures c.positions-positions.ensures c.in-Some.ensures in
    refuses_counted how (cells b) c.in-Some.added (length b.glyphs) b.max_len _ counted
    (search (arith, length-zipped)) c.in-Err.ensures.length
