-- What an edit leaves of a text whose syllables a grammar finds.
use Rattle.std.specs.Prelude.{◌-◌, ◌≡◌, ◌≤◌, List, ◌++◌, drop, length, reverse, take}
use Rattle.shapers_buffer.specs.Glyphs.{Glyphs}
use Rattle.shapers_buffer.specs.declared.buffer.syllables.Span.{Span}
use Rattle.shapers_spans.specs.Cuts.{AreSpansOf}
use Rattle.shapers_spans.specs.Grammar.{Grammar}
use Rattle.shapers_editing.specs.Affected.{glyphs_in, shared}
use Rattle.shapers_editing.specs.EditedSyllables.{TextPart, whole_glyphs, whole_spans}
use Rattle.shapers_editing.specs.declared.edits.Edit.{Edit}
use Rattle.shapers_editing.specs.declared.edits.Unaffected.{Unaffected}

-- the text with the edit
abbrev pub with_edit : Edit → Glyphs → Glyphs
with_edit e gs = take e.start gs ++ (e.glyphs.now ++ drop e.end gs)

-- How many glyphs in front and behind the edit leaves: those that belong to spans which the text
-- and the edited one share, in front of the edit and behind it.
pub record IsUnaffected (g : Grammar) (gs : Glyphs) (e : Edit) (left : Unaffected)
    : Type 0 where
  pub old : List Span
  pub new : List Span
  pub found : AreSpansOf g gs old
  pub found_again : AreSpansOf g (with_edit e gs) new
  pub front : left.front ≡ glyphs_in (shared e.start old new)
  pub back : left.back ≡ glyphs_in (shared (length gs - e.end) (reverse old) (reverse new))

-- So many glyphs are the same in both texts, with their spans: each text is a part in front, one of
-- its own, and a part behind.
pub record SharesParts (gs hs : Glyphs) (ss ts : List Span) (left : Unaffected)
    : Type 0 where
  pub front : TextPart
  pub old : TextPart
  pub new : TextPart
  pub back : TextPart
  pub glyphs : gs ≡ whole_glyphs front old back
  pub spans : ss ≡ whole_spans front old back
  pub other_glyphs : hs ≡ whole_glyphs front new back
  pub other_spans : ts ≡ whole_spans front new back
  pub in_front : length front.glyphs ≡ left.front
  pub behind : length back.glyphs ≡ left.back

abbrev pub UnaffectedIsShared : Type 0
UnaffectedIsShared = (g : Grammar) (gs : Glyphs) (e : Edit) (left : Unaffected) →
    e.start ≤ e.end → e.end ≤ length gs → (done : IsUnaffected g gs e left) →
    SharesParts gs (with_edit e gs) done.old done.new left
