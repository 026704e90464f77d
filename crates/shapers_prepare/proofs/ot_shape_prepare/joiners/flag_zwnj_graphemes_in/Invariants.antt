-- The glyphs that are done, and what becomes of the rest.
use Rattle.std.proofs.Common.{◌≡◌, ◌++◌, false, take, drop}
use Rattle.shapers_prepare.specs.JoinerFlags.{zwnj_flagged_behind}
use Rattle.shapers_prepare.proofs.ot_shape_prepare.joiners.flag_zwnj_graphemes_in.Given as goal

abbrev pub invariant-loop-glyph : goal.invariant-loop-glyph
invariant-loop-glyph l =
    take l.glyph-index l.glyphs ++ zwnj_flagged_behind l.begins (drop l.glyph-index l.glyphs)
    ≡ zwnj_flagged_behind false l.initial.glyphs
