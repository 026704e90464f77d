use Rattle.std.proofs.Common.{◌∙◌, sym}
use Rattle.opentype_gsub.specs.Setting.{setting_of}
use Rattle.opentype_gsub.proofs.PlainPuts.{stepped_none, stepped_put}
use Rattle.opentype_gsub.proofs.plain.step.Goals as goal

pub returns-in-Some : goal.returns-in-Some
returns-in-Some c = stepped_put (setting_of c.args.pass.now) c.args.lookup.now c.args.text.now _ c.args.at _
    c.args.lookups.now _
    (rw c.at.ensures.glyph at (sym (c.sees_in.ensures c.args.lookup.now c.requires.sight) ∙ c.if-not-sees_in.false)) c.in-Some.ensures

pub returns-in-None : goal.returns-in-None
returns-in-None c = stepped_none (setting_of c.args.pass.now) c.args.lookup.now c.args.text.now _ c.args.at
    c.args.lookups.now _
    (rw c.at.ensures.glyph at (sym (c.sees_in.ensures c.args.lookup.now c.requires.sight) ∙ c.if-not-sees_in.false)) c.in-None.ensures
