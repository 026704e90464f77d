-- The syllables that have their forms, and what becomes of the rest.
use Rattle.std.proofs.Common.{◌≡◌, ◌-◌, ◌≤◌, ◌++◌, false, length, take, drop}
use Rattle.shapers_buffer.specs.Syllables.{syllables}
use Rattle.shapers_universal.specs.UniversalSyllables.{in_forms}
use Rattle.shapers_universal.proofs.ot_shaper_use.forms.FormMasks.set_in.Given as goal

abbrev pub invariant-loop-start : goal.invariant-loop-start
invariant-loop-start l = record {
  done : take l.start l.glyphs ++ in_forms l.self l.before (syllables (drop l.start l.glyphs))
      ≡ in_forms l.self false (syllables l.initial.glyphs);
  inside : l.start ≤ length l.glyphs;
  as_long : length l.glyphs ≡ length l.initial.glyphs;
}

abbrev pub decreases-loop-start : goal.decreases-loop-start
decreases-loop-start l = length l.initial.glyphs - l.start
