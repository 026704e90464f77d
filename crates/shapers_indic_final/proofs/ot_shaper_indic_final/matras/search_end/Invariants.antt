-- What stands before this place decides.
use Rattle.std.proofs.Common.{◌≡◌, ◌+◌}
use Rattle.shapers_indic.specs.Glyphs.{greatest_place}
use Rattle.shapers_indic_final.specs.FinalMatras.{ends_search}
use Rattle.shapers_indic_final.proofs.ot_shaper_indic_final.matras.search_end.Given as goal

abbrev pub invariant-loop-i : goal.invariant-loop-i
invariant-loop-i l = greatest_place (ends_search l.glyphs) 0 l.i ≡ greatest_place (ends_search l.glyphs) 0 (l.from + 1)
