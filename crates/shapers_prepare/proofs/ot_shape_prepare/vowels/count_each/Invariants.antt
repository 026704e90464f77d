-- The circles so far, and those of the text behind.
use Rattle.std.proofs.Common.{◌≡◌, ◌≤◌, ◌+◌, drop}
use Rattle.shapers_prepare.specs.VowelWalk.{vowel_circles}
use Rattle.shapers_prepare.proofs.ot_shape_prepare.vowels.count_each.Given as goal

abbrev pub invariant-loop-i : goal.invariant-loop-i
invariant-loop-i l = record {
  circles : l.count + vowel_circles l.script l.left (drop l.i l.glyphs) ≡ vowel_circles l.script 0 l.glyphs;
  few : l.count ≤ l.i;
}
