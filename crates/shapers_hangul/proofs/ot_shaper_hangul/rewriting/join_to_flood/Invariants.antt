-- What is left of the items makes the whole of what is joined so far.
use Rattle.std.proofs.Common.{◌≡◌, ◌+◌, drop, length}
use Rattle.shapers_hangul.specs.Hangul.{all_joined}
use Rattle.shapers_hangul.specs.RewritingWalk.{flooding_len}
use Rattle.shapers_hangul.proofs.ot_shaper_hangul.rewriting.join_to_flood.Given as goal

abbrev pub invariant-loop-i : goal.invariant-loop-i
invariant-loop-i l = record {
  same_length : length l.glyphs ≡ length l.initial.glyphs;
  stops : l.i + flooding_len l.level (drop l.i l.cut) l.glyphs ≡ flooding_len l.level l.cut l.initial.glyphs;
  walk : all_joined l.level (drop l.i l.cut) l.glyphs ≡ all_joined l.level l.cut l.initial.glyphs;
}
