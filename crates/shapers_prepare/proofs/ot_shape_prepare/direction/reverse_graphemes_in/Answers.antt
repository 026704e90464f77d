-- The start, one more glyph, which ends a grapheme or goes on with it, and the last grapheme.
use Rattle.std.proofs.Common.{◌≡◌, ◌+◌, ◌<◌, ◌≤◌, [], ◌∷◌, drop, get_or, length, subst, sym, ap, ◌∙◌, refl, arith}
use Rattle.std.proofs.lemmas.Bool.Decides.{nat_tests}
use Rattle.shapers_buffer.specs.Glyph.{default_glyph}
use Rattle.shapers_buffer.specs.Properties.{is_continuation}
use Rattle.shapers_prepare.specs.Graphemes.{continuations, graphemes_from}
use Rattle.shapers_prepare.proofs.GraphemeSteps.{grapheme_ends, grapheme_goes_on, graphemes_start, last_grapheme}
use Rattle.shapers_prepare.proofs.TurningSteps.{Turned, read_behind, turned_all, turned_next, turned_start}
use Rattle.shapers_prepare.proofs.ot_shape_prepare.direction.reverse_graphemes_in.Goals as goal
use Rattle.shapers_prepare.proofs.ot_shape_prepare.direction.reverse_graphemes_in.Goals.{then-not-is_continuation, else-not-is_continuation}

pub loop-i-init : goal.loop-i-init
loop-i-init c =
    let all = c.args.glyphs.now in
    let some : 0 < length all = grind (arith, nat_tests, c.is_empty.ensures, c.if-is_empty.false) in
    record {
      in_order = omega arith;
      turned = subst (Turned all all 0) (sym (graphemes_start all some)) (turned_start all);
    }

pub loop-i-preserved : goal.loop-i-preserved
loop-i-preserved c =
    let l = c.loop-i in
    let all = c.args.glyphs.now in
    let next = c.if-not-is_continuation in
    let inside : l.i < length all = omega (arith, l.auto.glyphs) in
    let read : is_continuation (get_or all l.i default_glyph).unicode_props ≡ c.is_continuation.result =
    ap (λ g. is_continuation g.unicode_props)
    (sym (read_behind all l.glyphs l.start l.i (omega (arith, l.invariant.in_order)) l.invariant.turned.behind))
    ∙ sym c.is_continuation.ensures in
    elim c.if-not-is_continuation.branch [
      | then-not-is_continuation w ↦
          let ends = grapheme_ends l.start l.i all all inside refl (read ∙ w.if-not-is_continuation.true) in
          let turned = turned_next all l.glyphs w.reverse_stretch.new.glyphs l.start l.i
          (graphemes_from l.i (l.i + 1) (drop (l.i + 1) (continuations all)))
          (omega (arith, l.invariant.in_order)) (omega (arith, inside, l.auto.glyphs))
          (subst (Turned all l.glyphs l.start) ends l.invariant.turned) w.reverse_stretch.ensures in
          record {
            in_order = omega (arith, w.start-is);
            turned =
                subst (λ gs. Turned all gs next.start
                (graphemes_from next.start (l.i + 1) (drop (l.i + 1) (continuations all)))) (sym w.glyphs-is)
                (subst (λ s. Turned all w.reverse_stretch.new.glyphs s
                (graphemes_from s (l.i + 1) (drop (l.i + 1) (continuations all)))) (sym w.start-is) turned);
          }
      | else-not-is_continuation w ↦
          let goes_on = grapheme_goes_on l.start l.i all all inside refl (read ∙ w.if-not-is_continuation.false) in
          record {
            in_order = omega (arith, w.start-is, l.invariant.in_order);
            turned =
                subst (λ gs. Turned all gs next.start
                (graphemes_from next.start (l.i + 1) (drop (l.i + 1) (continuations all)))) (sym w.glyphs-is)
                (subst (λ s. Turned all l.glyphs s (graphemes_from s (l.i + 1) (drop (l.i + 1) (continuations all))))
                (sym w.start-is)
                (subst (Turned all l.glyphs l.start) goes_on l.invariant.turned));
          }
    ]

pub returns : goal.returns
returns c =
    let l = c.loop-i in
    let all = c.args.glyphs.now in
    let some : 1 ≤ length all = grind (arith, nat_tests, c.is_empty.ensures, c.if-is_empty.false) in
    let end : length l.glyphs ≡ l.i = omega (arith, c.loop-i-test.false, l.auto.i-end, some, l.auto.glyphs) in
    let last = last_grapheme l.start l.i all all (omega (arith, end, l.auto.glyphs)) refl in
    let ends : Turned all l.glyphs l.start ((l.start, length l.glyphs) ∷ []) =
    subst (λ e. Turned all l.glyphs l.start ((l.start, e) ∷ [])) (sym end)
    (subst (Turned all l.glyphs l.start) last l.invariant.turned) in
    c.reverse.ensures.after
    ∙ turned_all all c.reverse_stretch-2.new.glyphs (length l.glyphs) (omega (arith, c.reverse_stretch-2.auto.glyphs))
    (turned_next all l.glyphs c.reverse_stretch-2.new.glyphs l.start (length l.glyphs)
    [] (omega (arith, end, l.invariant.in_order)) (omega arith) ends c.reverse_stretch-2.ensures)
