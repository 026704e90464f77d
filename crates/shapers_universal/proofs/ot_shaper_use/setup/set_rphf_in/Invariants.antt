-- The syllables that are changed, and what becomes of the rest.
use Rattle.std.proofs.Common.{◌≡◌, ◌-◌, ◌≤◌, ◌++◌, length, take, drop}
use Rattle.std.specs.List.{flat_map}
use Rattle.shapers_buffer.specs.Syllables.{syllables}
use Rattle.shapers_universal.specs.UniversalSyllables.{with_rphf}
use Rattle.shapers_universal.proofs.ot_shaper_use.setup.set_rphf_in.Given as goal

abbrev pub invariant-loop-start : goal.invariant-loop-start
invariant-loop-start l = record {
  done : take l.start l.glyphs ++ flat_map (with_rphf l.mask) (syllables (drop l.start l.glyphs))
      ≡ flat_map (with_rphf l.mask) (syllables l.initial.glyphs);
  inside : l.start ≤ length l.glyphs;
  as_long : length l.glyphs ≡ length l.initial.glyphs;
}

abbrev pub decreases-loop-start : goal.decreases-loop-start
decreases-loop-start l = length l.initial.glyphs - l.start
