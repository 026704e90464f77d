-- What is written, and what the text from here on becomes, is the whole; the items left stand in turn.
use Rattle.std.proofs.Common.{◌≡◌, ◌≤◌, ◌++◌, drop, length}
use Rattle.std.specs.Prelude.{vec_capacity}
use Rattle.shapers_hangul.specs.RewritingWalk.{Consecutive, changed_from}
use Rattle.shapers_hangul.proofs.ot_shaper_hangul.rewriting.write_changes.Given as goal

abbrev pub invariant-loop-entry : goal.invariant-loop-entry
invariant-loop-entry l = record {
  in_turn : Consecutive (length l.glyphs) l.place (drop l.entry-index l.cut);
  walk : l.list.items ++ changed_from l.place (drop l.entry-index l.cut) l.glyphs ≡ l.initial.list.items
      ++ changed_from 0 l.cut l.glyphs;
  capacity : vec_capacity l.initial.list ≤ vec_capacity l.list;
}
