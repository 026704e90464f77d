-- What is left of the items makes the whole of what is joined so far.
use Rattle.std.proofs.Common.{◌≡◌, drop, length}
use Rattle.shapers_hangul.specs.Hangul.{all_joined}
use Rattle.shapers_hangul.proofs.ot_shaper_hangul.rewriting.join_by_items.Given as goal

abbrev pub invariant-loop-entry : goal.invariant-loop-entry
invariant-loop-entry l = record {
  same_length : length l.glyphs ≡ length l.initial.glyphs;
  walk : all_joined l.level (drop l.entry-index l.cut) l.glyphs ≡ all_joined l.level l.cut l.initial.glyphs;
}
