-- Joining, the flags of breaks, the selectors and the masks.
use Rattle.std.proofs.Common.{refl}
use Rattle.shapers_arabic.specs.JoinedText.{stored_types}
use Rattle.shapers_arabic.proofs.JoinedGlyphs.{forms-kept, have-masks, joined-characters, joins-all, text_between}
use Rattle.shapers_arabic.proofs.ot_shaper_arabic.walk.JoiningWalkGlyphWalk.walk.Goals as goal

pub finish_forms-requires : goal.finish_forms-requires
finish_forms-requires g c =
    let (characters, before, after) = c.requires in
    let w = c.args.self.now in
    let joining = (g.T.Tables.tables w.tables.now).joining in
    let gs = c.args.glyphs.now in
    let hs = c.join.new.glyphs in
    let done = c.join.ensures.joined before.0 after.0 before.1 after.1 in
    have-masks c.flag_breaks.new.glyphs before.0 (stored_types joining gs) after.0
    (forms-kept w.breaks w.script (text_between before.0 joining gs after.0) hs c.flag_breaks.new.glyphs
    (joined-characters w.flags before.0 (stored_types joining gs) after.0 gs hs done.flagged)
    done.forms_are c.flag_breaks.ensures)

pub returns : goal.returns
returns g c = let w = c.args.self.now in (
  joins-all w.breaks w.masks.now w.flags w.script (g.T.Tables.tables w.tables.now).joining w.before w.after
      c.args.glyphs.now c.join.new.glyphs c.flag_breaks.new.glyphs c.finish_forms.new.glyphs c.join.ensures.joined
      c.flag_breaks.ensures c.finish_forms.ensures,
  c.join.ensures.counted,
  refl,
)
