use Rattle.opentype_gsub.specs.Setting.{setting_of}
use Rattle.opentype_gsub.proofs.PlainPuts.{plain_few}
use Rattle.opentype_gsub.proofs.plain.PuttingGlyphEditing.edit.Goals as goal

pub returns-clause-few : goal.returns-clause-few
returns-clause-few c = rw c.into_list.ensures (plain_few (setting_of c.args.self.now.pass.now) _ c.args.glyphs.items _ _ _ _ c.requires
    (rw c.new-text.ensures at c.put_along.ensures))
