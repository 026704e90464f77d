-- The letters so far.
use Rattle.std.proofs.Common.{◌≡◌, ◌+◌, List}
use Rattle.shapers_base.specs.declared.plan.joining.hb_arabic_joining_type_t.{hb_arabic_joining_type_t}
use Rattle.shapers_arabic.specs.Joining.{nearest}
use Rattle.shapers_arabic.specs.JoinedText.{stored_types}
use Rattle.shapers_arabic.specs.JoiningWalk.{SameText, WalkedTo, IsWithin, state_at_start}
use Rattle.shapers_arabic.proofs.ot_shaper_arabic.joining.join_letters.Given as goal

abbrev pub invariant-loop-i : goal.invariant-loop-i
invariant-loop-i g l = record {
  text : SameText l.initial.glyphs l.glyphs;
  walked : (before : List hb_arabic_joining_type_t) → l.fn.state ≡ state_at_start (nearest before)
      → WalkedTo l.flags before (stored_types (g.T.Tables.tables l.tables).joining l.initial.glyphs) l.initial.glyphs
      l.i l.letters.state l.letters.last l.glyphs;
  counted : l.count ≡ l.initial.count + l.i;
  within : IsWithin l.letters.last l.i;
}
