-- Normalization is the last step.
use Rattle.std.proofs.Common.{◌∙◌, ap, map}
use Rattle.shapers_prepare.specs.Rotation.{rotated_glyph}
use Rattle.shapers_buffer.specs.Buffer.{Buffer}
use Rattle.shapers_pipeline.specs.Prepared.{preparation}
use Rattle.shapers_pipeline.proofs.Growing.{normalized_refused, normalized_room}
use Rattle.shapers_pipeline.proofs.prepare.Preparing.preprocess_and_normalize.Goals as goal

pub returns-clause-room : goal.returns-clause-room
returns-clause-room g c =
    let p = preparation c.args.self.now.plan.now c.args.self.now.settings.now (g.F.hb_font_t.font c.args.self.now.font.now) (g.F.NormalizeFont.variants c.args.self.now.font.now) (g.T.UnicodeProperties.properties c.args.self.now.tables.now) (g.T.Tables.tables c.args.self.now.tables.now) (g.T.NormalizeTables.texts c.args.self.now.tables.now) in
    let k = c.preprocess_text.new.buffer in
    normalized_room p c.args.direction c.args.buffer.now k c.rotate_chars.new.buffer c.ot_shape_normalize.result
    (record {
      preprocessed = c.in_ok-preprocess_text.ensures.ok;
      limit = c.preprocess_text.ensures.limit;
      room = c.in_ok-preprocess_text.ensures.length;
      rotated = c.rotate_chars.ensures ∙ ap (λ r. let b : Buffer = record k { glyphs = map (rotated_glyph p.properties p.font r) k.glyphs } in b) c.rotation_to-rotation.ensures;
    })
    c.ot_shape_normalize.ensures.length

pub returns-clause-err : goal.returns-clause-err
returns-clause-err g c =
    let p = preparation c.args.self.now.plan.now c.args.self.now.settings.now (g.F.hb_font_t.font c.args.self.now.font.now) (g.F.NormalizeFont.variants c.args.self.now.font.now) (g.T.UnicodeProperties.properties c.args.self.now.tables.now) (g.T.Tables.tables c.args.self.now.tables.now) (g.T.NormalizeTables.texts c.args.self.now.tables.now) in
    let k = c.preprocess_text.new.buffer in
    normalized_refused p c.args.direction c.args.buffer.now k c.rotate_chars.new.buffer c.ot_shape_normalize.new.buffer c.ot_shape_normalize.result
    (record {
      preprocessed = c.in_ok-preprocess_text.ensures.ok;
      limit = c.preprocess_text.ensures.limit;
      room = c.in_ok-preprocess_text.ensures.length;
      rotated = c.rotate_chars.ensures ∙ ap (λ r. let b : Buffer = record k { glyphs = map (rotated_glyph p.properties p.font r) k.glyphs } in b) c.rotation_to-rotation.ensures;
    })
    c.ot_shape_normalize.ensures.length c.ot_shape_normalize.ensures.err
