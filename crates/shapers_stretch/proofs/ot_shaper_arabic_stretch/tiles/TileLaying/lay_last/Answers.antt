use Rattle.std.proofs.Common.{◌<◌, arith}
use Rattle.shapers_stretch.specs.LayingWalk.{laying_by}
use Rattle.shapers_stretch.proofs.PartLaying.{part_can, part_laid, part_moved, part_unlaid}
use Rattle.shapers_stretch.proofs.ot_shaper_arabic_stretch.tiles.TileLaying.lay_last.Goals as goal

pub lay_sequence-place-requires-clause-sequence : goal.lay_sequence-place-requires-clause-sequence
lay_sequence-place-requires-clause-sequence g c =
    let how = laying_by (g.F.hb_font_t.font c.args.self.now.font.now) c.args.self.now.choice
    c.args.self.now.right_to_left in
    let p = c.last_part-part.result in
    let e = c.last_part-part.ensures in
    let u = c.args.unlaid in
    let l = part_unlaid how c.args.glyphs.now c.args.positions.now p.start p.word p.tiles u.end u.place c.requires.some
    c.requires.unlaid e.tiles e.word e.start in
    let some : p.tiles < u.end = search arith in
    search part_can

pub returns-then-part-unlaid-clause-laid : goal.returns-then-part-unlaid-clause-laid
returns-then-part-unlaid-clause-laid g c =
    let how = laying_by (g.F.hb_font_t.font c.args.self.now.font.now) c.args.self.now.choice
    c.args.self.now.right_to_left in
    let p = c.last_part-part.result in
    let e = c.last_part-part.ensures in
    let u = c.args.unlaid in
    let l = part_unlaid how c.args.glyphs.now c.args.positions.now p.start p.word p.tiles u.end u.place c.requires.some
    c.requires.unlaid e.tiles e.word e.start in
    search part_moved

pub returns-then-part-unlaid-clause-shorter : goal.returns-then-part-unlaid-clause-shorter
returns-then-part-unlaid-clause-shorter g c =
    let how = laying_by (g.F.hb_font_t.font c.args.self.now.font.now) c.args.self.now.choice
    c.args.self.now.right_to_left in
    let p = c.last_part-part.result in
    let e = c.last_part-part.ensures in
    let u = c.args.unlaid in
    (part_unlaid how c.args.glyphs.now c.args.positions.now p.start p.word p.tiles u.end u.place c.requires.some
    c.requires.unlaid e.tiles e.word e.start).less

pub move_up-requires-2-clause-ahead : goal.move_up-requires-2-clause-ahead
move_up-requires-2-clause-ahead g c =
    let how = laying_by (g.F.hb_font_t.font c.args.self.now.font.now) c.args.self.now.choice
    c.args.self.now.right_to_left in
    let p = c.last_part-part.result in
    let e = c.last_part-part.ensures in
    let u = c.args.unlaid in
    let l = part_unlaid how c.args.glyphs.now c.args.positions.now p.start p.word p.tiles u.end u.place c.requires.some
    c.requires.unlaid e.tiles e.word e.start in
    let can = part_can how c.args.glyphs.now c.args.positions.now p.start p.word p.tiles u.end u.place (search arith)
    c.requires.unlaid l in
    search arith

pub overflow_sub-result-3 : goal.overflow_sub-result-3
overflow_sub-result-3 g c =
    let how = laying_by (g.F.hb_font_t.font c.args.self.now.font.now) c.args.self.now.choice
    c.args.self.now.right_to_left in
    let p = c.last_part-part.result in
    let e = c.last_part-part.ensures in
    let u = c.args.unlaid in
    let l = part_unlaid how c.args.glyphs.now c.args.positions.now p.start p.word p.tiles u.end u.place c.requires.some
    c.requires.unlaid e.tiles e.word e.start in
    let can = part_can how c.args.glyphs.now c.args.positions.now p.start p.word p.tiles u.end u.place (search arith)
    c.requires.unlaid l in
    omega arith

pub returns-clause-laid : goal.returns-clause-laid
returns-clause-laid g c =
    let how = laying_by (g.F.hb_font_t.font c.args.self.now.font.now) c.args.self.now.choice
    c.args.self.now.right_to_left in
    let p = c.last_part-part.result in
    let e = c.last_part-part.ensures in
    let u = c.args.unlaid in
    let r = c.lay_sequence-place.ensures in
    let h = c.lay_sequence-place.new in
    let n = c.move_up-2.new in
    let l = part_unlaid how c.args.glyphs.now c.args.positions.now p.start p.word p.tiles u.end u.place c.requires.some
    c.requires.unlaid e.tiles e.word e.start in
    part_laid how c.args.glyphs.now h.glyphs n.glyphs c.args.positions.now h.positions n.positions p.start p.word
    p.tiles u.end u.place c.lay_sequence-place.result (omega arith) c.requires.unlaid l r.same_length
    c.move_up-2.ensures.same_length c.move_up-2.ensures.both r.flagged r.laid r.place c.move_up-2.ensures.kept
    c.move_up-2.ensures.up
