-- The syllables that are flagged, and what becomes of the rest.
use Rattle.std.proofs.Common.{◌≡◌, ◌-◌, ◌≤◌, ◌++◌, length, take, drop}
use Rattle.shapers_syllabic.specs.Syllabic.{unsafe_syllables}
use Rattle.shapers_syllabic.proofs.ot_shaper_syllabic.setup.flag_syllables_in.Given as goal

abbrev pub invariant-loop-start : goal.invariant-loop-start
invariant-loop-start l = record {
  done : take l.start l.glyphs ++ unsafe_syllables (drop l.start l.glyphs) ≡ unsafe_syllables l.initial.glyphs;
  inside : l.start ≤ length l.glyphs;
  as_long : length l.glyphs ≡ length l.initial.glyphs;
}

abbrev pub decreases-loop-start : goal.decreases-loop-start
decreases-loop-start l = length l.initial.glyphs - l.start
