-- Texts of Khmer before and after an edit, reordered by the same rule.
use Rattle.std.proofs.Common.{◌≡◌, ◌≤◌, ◌∙◌, ℕ, Bool, true, false, length, Option, None, Some, refl, sym, ap, subst}
use Rattle.std.specs.Prelude.{All, List, [], is_some, if◌then◌else◌}
use Rattle.std.proofs.lemmas.Bool.{false≢true}
use Rattle.shapers_base.specs.Font.{Font, dotted_circle}
use Rattle.shapers_base.specs.declared.font.GlyphId.{GlyphId}
use Rattle.shapers_base.specs.declared.plan.hb_ot_shape_plan_t.{hb_ot_shape_plan_t}
use Rattle.shapers_base.specs.declared.plan.pause.Pause.TheVariants.{ReorderKhmer, SetupSyllablesKhmer}
use Rattle.shapers_buffer.specs.Buffer.{Buffer}
use Rattle.shapers_buffer.specs.Glyphs.{Glyphs}
use Rattle.shapers_buffer.specs.declared.buffer.syllables.Span.{Span}
use Rattle.shapers_khmer.specs.Khmer.{khmer_circles, khmer_order, khmer_steps, order_in}
use Rattle.shapers_spans.specs.Khmer.{khmer_grammar}
use Rattle.shapers_syllabic.specs.Circles.{circles_for, wants_circles}
use Rattle.shapers_syllabic.specs.declared.ot_shaper_syllabic.circles.DottedCircles.{DottedCircles}
use Rattle.rustybuzz_shapers.specs.Pauses.{Paused, Reordering, by_khmer}
use Rattle.shapers_editing.specs.EditedSyllables.{PausesStayOutside, TextPart, whole_glyphs, whole_spans}
use Rattle.shapers_editing.specs.EditedTexts.{IsUnaffected, UnaffectedIsShared, with_edit}
use Rattle.shapers_editing.specs.SpanEdits.{OneCut}
use Rattle.shapers_editing.specs.declared.edits.Edit.{Edit}
use Rattle.shapers_editing.specs.declared.edits.Unaffected.{Unaffected}
use Rattle.shapers_bench.specs.EditedKhmer.{KhmerReordered, SameAround, unlimited_text}
use Rattle.shapers_bench.proofs.EditedWord.{parts-shared}

-- texts that both want circles, or neither, get the same ones
same-if : (circle : DottedCircles) (x y : Bool) → let some = λ (b : Bool). if b then Some circle else None in
    is_some (some x) ≡ is_some (some y) → some x ≡ some y
same-if circle true true e = refl
same-if circle false false e = refl
same-if circle true false e = absurd (false≢true (sym e))
same-if circle false true e = absurd (false≢true e)

same-circles : (glyph : Option GlyphId) (kind category : ℕ) (repha place : Option ℕ) (a b : Buffer) →
    let of = circles_for glyph kind category repha place in
    is_some (of a) ≡ is_some (of b) → of a ≡ of b
same-circles None kind category repha place a b e = refl
same-circles (Some glyph) kind category repha place a b e = same-if _ (wants_circles a) (wants_circles b) e

same-rule : (plan : hb_ot_shape_plan_t) (font : Font) (a b : Buffer)
    → is_some (by_khmer plan font a).circles ≡ is_some (by_khmer plan font b).circles
    → by_khmer plan font a ≡ by_khmer plan font b
same-rule plan font a b e =
    let k = khmer_circles in
    ap (λ (circles : Option DottedCircles). let r : Reordering = record {
      circles = circles;
      order = khmer_order (order_in plan.plan_data);
      steps = khmer_steps;
    } in r)
    (same-circles (font.nominal dotted_circle) k.broken_kind k.category k.repha k.position a b e)

-- the set-up of a text by its spans is that of its parts by theirs
in-parts : (plan : hb_ot_shape_plan_t) (font : Font) (gs : Glyphs) (ss : List Span) (mid : Buffer)
    (front own back : TextPart) → gs ≡ whole_glyphs front own back → ss ≡ whole_spans front own back
    → Paused SetupSyllablesKhmer plan font ss (unlimited_text gs) mid
    → Paused SetupSyllablesKhmer plan font (whole_spans front own back) (unlimited_text (whole_glyphs front own back)) mid
in-parts plan font gs ss mid front own back glyphs spans setup =
    subst (λ ts. Paused SetupSyllablesKhmer plan font ts (unlimited_text (whole_glyphs front own back)) mid) spans
    (subst (λ hs. Paused SetupSyllablesKhmer plan font ss (unlimited_text hs) mid) glyphs setup)

kinds-in : (ss ts : List Span) → ss ≡ ts → All (λ (span : Span). span.kind ≤ 15) ss
    → All (λ (span : Span). span.kind ≤ 15) ts
kinds-in ss ts same all = subst (All (λ (span : Span). span.kind ≤ 15)) same all

pub same-around : UnaffectedIsShared → OneCut → PausesStayOutside SetupSyllablesKhmer ReorderKhmer by_khmer
    → (plan : hb_ot_shape_plan_t) (font : Font) (gs : Glyphs) (e : Edit) (left : Unaffected) (xs ys : Buffer) (a b : Bool)
    → e.start ≤ e.end → e.end ≤ length gs → IsUnaffected khmer_grammar gs e left
    → KhmerReordered plan font gs xs a → KhmerReordered plan font (with_edit e gs) ys b → a ≡ b
    → SameAround left gs (with_edit e gs) xs.glyphs ys.glyphs
same-around shared one outside plan font gs e left xs ys a b order range done old new same =
    let hs = with_edit e gs in
    let p = parts-shared shared one khmer_grammar gs e left order range done old.spans new.spans old.found new.found in
    let alike = same-rule plan font old.mid new.mid (sym old.circles ∙ (same ∙ new.circles)) in
    record {
      front = p.front;
      old = p.old;
      new = p.new;
      back = p.back;
      glyphs = p.glyphs;
      other_glyphs = p.other_glyphs;
      in_front = p.in_front;
      behind = p.behind;
      rule = by_khmer plan font old.mid;
      same = outside plan font [] p.front p.old p.new p.back (unlimited_text []) old.mid xs new.mid ys
          (kinds-in old.spans (whole_spans p.front p.old p.back) p.spans old.found.kinds)
          (kinds-in new.spans (whole_spans p.front p.new p.back) p.other_spans new.found.kinds)
          (in-parts plan font gs old.spans old.mid p.front p.old p.back p.glyphs p.spans old.setup) old.order
          (in-parts plan font hs new.spans new.mid p.front p.new p.back p.other_glyphs p.other_spans new.setup) new.order
          alike;
    }
