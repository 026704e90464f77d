-- The glyphs that are passed, and what becomes of the rest.
use Rattle.std.proofs.Common.{◌≡◌, ◌++◌, take, drop}
use Rattle.std.specs.List.{flat_map}
use Rattle.shapers_buffer.specs.Syllables.{syllables}
use Rattle.shapers_universal.specs.UniversalWalk.{left_to_change}
use Rattle.shapers_universal.proofs.ot_shaper_use.syllable_walk.change_fronts.Given as goal

abbrev pub invariant-loop-glyph : goal.invariant-loop-glyph
invariant-loop-glyph g l =
    take l.glyph-index l.glyphs ++ left_to_change (g.C.FrontChange.changed l.change) l.passed
    (drop l.glyph-index l.glyphs) ≡ flat_map (g.C.FrontChange.changed l.change) (syllables l.initial.glyphs)
