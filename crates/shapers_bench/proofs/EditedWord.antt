-- What an edit leaves of a text, by any spans of the text and of the edited one.
use Rattle.std.proofs.Common.{◌≤◌, List, ◌++◌, length, sym, subst, ◌∙◌, append_assoc}
use Rattle.shapers_buffer.specs.Glyphs.{Glyphs}
use Rattle.shapers_buffer.specs.declared.buffer.syllables.Span.{Span}
use Rattle.shapers_spans.specs.Cuts.{AreSpansOf}
use Rattle.shapers_spans.specs.Grammar.{Grammar}
use Rattle.shapers_editing.specs.EditedSyllables.{AlikeAtEnds}
use Rattle.shapers_editing.specs.EditedTexts.{IsUnaffected, SharesParts, UnaffectedIsShared, with_edit}
use Rattle.shapers_editing.specs.SpanEdits.{OneCut}
use Rattle.shapers_editing.specs.declared.edits.Edit.{Edit}
use Rattle.shapers_editing.specs.declared.edits.Unaffected.{Unaffected}
use Rattle.shapers_editing.proofs.EditedSyllables.{same-ends}

-- A text has one cut by a grammar, so whoever finds its spans finds those that were compared.
pub parts-shared : UnaffectedIsShared → OneCut → (g : Grammar) (gs : Glyphs) (e : Edit) (left : Unaffected)
    → e.start ≤ e.end → e.end ≤ length gs → IsUnaffected g gs e left → (ss ts : List Span) → AreSpansOf g gs ss
    → AreSpansOf g (with_edit e gs) ts → SharesParts gs (with_edit e gs) ss ts left
parts-shared shared one g gs e left order range done ss ts found again =
    let hs = with_edit e gs in
    subst (λ us. SharesParts gs hs us ts left) (one g gs done.old ss done.found.cut found.cut)
    (subst (λ us. SharesParts gs hs done.old us left) (one g hs done.new ts done.found_again.cut again.cut)
    (shared g gs e left order range done))

-- Texts that share their parts in front and behind are alike there.
pub ends-alike : (gs hs : Glyphs) (ss ts : List Span) (left : Unaffected) → SharesParts gs hs ss ts left
    → AlikeAtEnds left.front left.back gs hs
ends-alike gs hs ss ts left p =
    let f = p.front.glyphs in
    let o = p.old.glyphs in
    let n = p.new.glyphs in
    let b = p.back.glyphs in
    subst (λ k. AlikeAtEnds k left.back gs hs) p.in_front
    (subst (λ k. AlikeAtEnds (length f) k gs hs) p.behind
    (same-ends f b (o ++ b) (f ++ o) (n ++ b) (f ++ n) gs hs
    p.glyphs (p.glyphs ∙ sym (append_assoc f o b))
    p.other_glyphs (p.other_glyphs ∙ sym (append_assoc f n b))))
