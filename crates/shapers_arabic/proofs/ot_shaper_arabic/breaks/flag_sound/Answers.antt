-- Both walks, one after the other.
use Rattle.std.proofs.Common.{arith}
use Rattle.shapers_arabic.proofs.SoundSteps.{flagged-twice}
use Rattle.shapers_arabic.proofs.ot_shaper_arabic.breaks.flag_sound.Goals as goal

pub returns-then-is_mongolian : goal.returns-then-is_mongolian
returns-then-is_mongolian c =
    flagged-twice c.args.script c.args.glyphs.now c.flag_forms.new.glyphs c.flag_selectors.new.glyphs
    (search arith) c.flag_forms.ensures c.flag_selectors.ensures
