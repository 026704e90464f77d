-- What is left of the items makes the whole of what is joined so far, if the groups were written.
use Rattle.std.proofs.Common.{◌≡◌, drop, length}
use Rattle.shapers_clusters.specs.CarriedGroups.{AreCarried, with_groups}
use Rattle.shapers_hangul.specs.Hangul.{all_joined}
use Rattle.shapers_hangul.proofs.ot_shaper_hangul.rewriting.join_carrying.Given as goal

abbrev pub invariant-loop-entry : goal.invariant-loop-entry
invariant-loop-entry l = record {
  same_length : length l.glyphs ≡ length l.initial.glyphs;
  fits : AreCarried l.groups l.glyphs;
  walk : all_joined l.level (drop l.entry-index l.cut) (with_groups l.groups l.glyphs)
      ≡ all_joined l.level l.cut l.initial.glyphs;
}
