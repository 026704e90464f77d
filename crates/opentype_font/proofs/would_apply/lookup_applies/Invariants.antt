use Rattle.std.proofs.Common.{min}
use Rattle.opentype_face.specs.Lookups.{subtables_in}
use Rattle.opentype_font.specs.WouldApply.{nth_applies}
use Rattle.opentype_font.proofs.Tests.{NoneYet}
use Rattle.opentype_font.proofs.would_apply.lookup_applies.Given as goal

abbrev pub invariant-loop-i : goal.invariant-loop-i
invariant-loop-i l = NoneYet (nth_applies l.lookup l.glyphs l.zero_context) (min (subtables_in l.lookup) 256) l.i
