-- The steps before the text is in its own direction, and those behind.
use Rattle.shapers_pipeline.specs.Prepared.{preparation}
use Rattle.shapers_pipeline.proofs.Growing.{all_room, is_normalized, one_refused}
use Rattle.shapers_pipeline.proofs.prepare.Preparing.prepare_characters.Goals as goal

pub returns-clause-ok : goal.returns-clause-ok
returns-clause-ok g c =
    let p = preparation c.args.self.now.plan.now c.args.self.now.settings.now (g.F.hb_font_t.font c.args.self.now.font.now) (g.F.NormalizeFont.variants c.args.self.now.font.now) (g.T.UnicodeProperties.properties c.args.self.now.tables.now) (g.T.Tables.tables c.args.self.now.tables.now) (g.T.NormalizeTables.texts c.args.self.now.tables.now) in
    let a = c.set_masks_and_properties.new.buffer in
    let b = c.insert_dotted_circle.new.buffer in
    let d = c.form_clusters_and_direct.new.buffer in
    is_normalized p c.args.buffer.now a b d c.preprocess_and_normalize.new.buffer c.direction-direction.result c.preprocess_and_normalize.result
    (record {
      begun = c.set_masks_and_properties.ensures;
      opened = c.in_ok-insert_dotted_circle.ensures.ok;
      room = c.in_ok-insert_dotted_circle.ensures.length;
      turned = c.form_clusters_and_direct.ensures.text;
      wanted = c.direction-direction.ensures;
    })
    c.preprocess_and_normalize.ensures.ok

pub returns-clause-room : goal.returns-clause-room
returns-clause-room g c =
    let p = preparation c.args.self.now.plan.now c.args.self.now.settings.now (g.F.hb_font_t.font c.args.self.now.font.now) (g.F.NormalizeFont.variants c.args.self.now.font.now) (g.T.UnicodeProperties.properties c.args.self.now.tables.now) (g.T.Tables.tables c.args.self.now.tables.now) (g.T.NormalizeTables.texts c.args.self.now.tables.now) in
    let a = c.set_masks_and_properties.new.buffer in
    let b = c.insert_dotted_circle.new.buffer in
    let d = c.form_clusters_and_direct.new.buffer in
    all_room p c.args.buffer.now a b d c.direction-direction.result c.preprocess_and_normalize.result
    (record {
      begun = c.set_masks_and_properties.ensures;
      opened = c.in_ok-insert_dotted_circle.ensures.ok;
      room = c.in_ok-insert_dotted_circle.ensures.length;
      turned = c.form_clusters_and_direct.ensures.text;
      wanted = c.direction-direction.ensures;
    })
    c.preprocess_and_normalize.ensures.room

pub returns-clause-err : goal.returns-clause-err
returns-clause-err g c =
    let p = preparation c.args.self.now.plan.now c.args.self.now.settings.now (g.F.hb_font_t.font c.args.self.now.font.now) (g.F.NormalizeFont.variants c.args.self.now.font.now) (g.T.UnicodeProperties.properties c.args.self.now.tables.now) (g.T.Tables.tables c.args.self.now.tables.now) (g.T.NormalizeTables.texts c.args.self.now.tables.now) in
    let a = c.set_masks_and_properties.new.buffer in
    let b = c.insert_dotted_circle.new.buffer in
    let d = c.form_clusters_and_direct.new.buffer in
    one_refused p c.args.buffer.now a b d c.preprocess_and_normalize.new.buffer c.direction-direction.result c.preprocess_and_normalize.result
    (record {
      begun = c.set_masks_and_properties.ensures;
      opened = c.in_ok-insert_dotted_circle.ensures.ok;
      room = c.in_ok-insert_dotted_circle.ensures.length;
      turned = c.form_clusters_and_direct.ensures.text;
      wanted = c.direction-direction.ensures;
    })
    c.preprocess_and_normalize.ensures.err
