-- What stands before this place decides.
use Rattle.std.proofs.Common.{◌≡◌, length, ◌≤◌}
use Rattle.shapers_indic.specs.Glyphs.{greatest_place}
use Rattle.shapers_indic_initial.specs.InitialBase.{stops_search}
use Rattle.shapers_indic_initial.proofs.ot_shaper_indic_initial.base.search_from.Given as goal

abbrev pub invariant-loop-place : goal.invariant-loop-place
invariant-loop-place l =
    (l.lo ≤ l.place) × (greatest_place (stops_search l.glyphs) l.lo l.place
    ≡ greatest_place (stops_search l.glyphs) l.lo (length l.glyphs))
