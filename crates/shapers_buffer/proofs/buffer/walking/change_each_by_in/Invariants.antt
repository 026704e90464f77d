use Rattle.std.proofs.Common.{◌≡◌, ◌++◌, map, take, drop}
use Rattle.shapers_buffer.specs.Glyphs.{Glyph}
use Rattle.shapers_buffer.specs.Changes.{ChangesAs}
use Rattle.shapers_buffer.proofs.buffer.walking.change_each_by_in.Given as goal

abbrev pub invariant-loop-glyph : goal.invariant-loop-glyph
invariant-loop-glyph g l = (f : Glyph → Glyph) → ChangesAs g.F.Fn l.change f
    → take l.glyph-index l.glyphs ++ map f (drop l.glyph-index l.glyphs) ≡ map f l.initial.glyphs
