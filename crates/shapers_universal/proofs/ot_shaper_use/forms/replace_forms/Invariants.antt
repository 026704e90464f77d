-- What is done and what becomes of the rest.
use Rattle.std.proofs.Common.{◌≡◌, ◌++◌, map, take, drop}
use Rattle.shapers_universal.specs.UniversalSyllables.{with_instead}
use Rattle.shapers_universal.proofs.ot_shaper_use.forms.replace_forms.Given as goal

abbrev pub invariant-loop-glyph : goal.invariant-loop-glyph
invariant-loop-glyph l = take l.glyph-index l.glyphs ++ map (with_instead l.all l.mask) (drop l.glyph-index l.glyphs)
    ≡ map (with_instead l.all l.mask) l.initial.glyphs
