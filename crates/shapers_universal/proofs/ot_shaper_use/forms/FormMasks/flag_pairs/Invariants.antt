-- What is left flags the whole of what is flagged so far.
use Rattle.std.proofs.Common.{◌≡◌, ◌-◌, ◌≤◌, false, length, drop}
use Rattle.shapers_buffer.specs.GlyphFlags.{unsafe_all}
use Rattle.shapers_buffer.specs.Syllables.{syllables}
use Rattle.shapers_universal.specs.UniversalSyllables.{torn_pairs}
use Rattle.shapers_universal.proofs.ot_shaper_use.forms.FormMasks.flag_pairs.Given as goal

abbrev pub invariant-loop-start : goal.invariant-loop-start
invariant-loop-start l = record {
  done : unsafe_all (torn_pairs l.self l.before l.start (syllables (drop l.start l.glyphs))) l.glyphs
      ≡ unsafe_all (torn_pairs l.self false 0 (syllables l.initial.glyphs)) l.initial.glyphs;
  inside : l.start ≤ length l.glyphs;
  as_long : length l.glyphs ≡ length l.initial.glyphs;
}

abbrev pub decreases-loop-start : goal.decreases-loop-start
decreases-loop-start l = length l.initial.glyphs - l.start
