use Rattle.std.proofs.Common.{arith}
use Rattle.opentype_gsub.specs.Setting.{setting_of}
use Rattle.opentype_gsub.proofs.AsLong.{tried_as_long}
use Rattle.opentype_gsub.proofs.PlainPuts.{came_seen}
use Rattle.opentype_gsub.proofs.plain.put_at.Goals as goal

pub at-requires : goal.at-requires
at-requires c = omega (arith, tried_as_long (setting_of c.args.pass.now) _ _ _ _ c.flag_tried.ensures)

pub put_among-requires-clause-here : goal.put_among-requires-clause-here
put_among-requires-clause-here c = omega (arith, tried_as_long (setting_of c.args.pass.now) _ _ _ _ c.flag_tried.ensures)

pub returns : goal.returns
returns c = came_seen (setting_of c.args.pass.now) c.args.lookup.now c.bytes.result.now c.args.text.now
    c.flag_tried.new.text c.put_among.new.text c.args.at c.args.lookups.now c.put_among.new.lookups c.sight_from-seen.result
    c.put_among.result (omega (arith, tried_as_long (setting_of c.args.pass.now) _ _ _ _ c.flag_tried.ensures))
    (rw c.at.ensures.glyph at (c.sight_from-seen.ensures c.args.pass.now.classes.gdef.now c.args.lookup.now c.requires.sight))
    c.flag_tried.ensures c.bytes.ensures c.put_among.ensures
