-- The glyphs that are done, and what becomes of the rest.
use Rattle.std.proofs.Common.{◌≡◌, ◌++◌, None, take, drop}
use Rattle.shapers_arabic.specs.JoiningWalk.{with_copied}
use Rattle.shapers_arabic.proofs.ot_shaper_arabic.masks.copy_to_selectors.Given as goal

abbrev pub invariant-loop-glyph : goal.invariant-loop-glyph
invariant-loop-glyph l = take l.glyph-index l.glyphs ++ with_copied l.previous (drop l.glyph-index l.glyphs)
    ≡ with_copied None l.initial.glyphs
