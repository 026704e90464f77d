-- What is written, and what the text behind becomes, is the whole.
use Rattle.std.proofs.Common.{◌≡◌, ◌≤◌, ◌++◌, drop}
use Rattle.std.specs.Prelude.{vec_capacity}
use Rattle.shapers_prepare.specs.Vowels.{vowels_circled_from}
use Rattle.shapers_prepare.proofs.ot_shape_prepare.vowels.write_circled.Given as goal

abbrev pub invariant-loop-i : goal.invariant-loop-i
invariant-loop-i l = record {
  text : l.to.items ++ vowels_circled_from l.script l.left (drop l.i l.glyphs) ≡ l.initial.to.items
      ++ vowels_circled_from l.script 0 l.glyphs;
  capacity : vec_capacity l.initial.to ≤ vec_capacity l.to;
}
