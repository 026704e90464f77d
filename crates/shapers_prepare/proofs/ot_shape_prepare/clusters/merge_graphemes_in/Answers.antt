-- One more glyph, which ends a grapheme or goes on with it, and the last grapheme.
use Rattle.std.proofs.Common.{◌≡◌, ◌+◌, ◌≤◌, [], ◌∷◌, drop, length, subst, sym, ap, ◌∙◌, arith}
use Rattle.std.proofs.lemmas.Bool.Decides.{nat_tests}
use Rattle.shapers_buffer.specs.Clusters.{merge_all}
use Rattle.shapers_buffer.specs.ClusterRanges.{RangeFits, with_range}
use Rattle.shapers_prepare.specs.Graphemes.{continuations, graphemes_from}
use Rattle.shapers_prepare.proofs.GraphemeSteps.{continuations-merged, grapheme_ends, grapheme_goes_on, last_grapheme}
use Rattle.shapers_prepare.proofs.ot_shape_prepare.clusters.merge_graphemes_in.Goals as goal
use Rattle.shapers_prepare.proofs.ot_shape_prepare.clusters.merge_graphemes_in.Goals.{then-not-is_continuation, else-not-is_continuation}

pub loop-i-preserved : goal.loop-i-preserved
loop-i-preserved c =
    let l = c.loop-i in
    let all = c.args.glyphs.now in
    let next = c.if-not-is_continuation in
    let rest = drop (l.i + 1) (continuations all) in
    elim c.if-not-is_continuation.branch [
      | then-not-is_continuation w ↦
          let m = w.merge_range_in-pending in
          let ends = grapheme_ends l.start l.i l.glyphs all (omega arith) l.invariant.same
          (sym c.is_continuation.ensures ∙ w.if-not-is_continuation.true) in
          record {
            fits = subst (λ pending. RangeFits pending next.glyphs) (sym w.pending-is)
                (subst (RangeFits m.result) (sym w.glyphs-is) m.ensures.fits);
            in_order = omega (arith, w.start-is);
            same = ap continuations w.glyphs-is
                ∙ continuations-merged c.args.level l.start l.i l.pending m.result l.glyphs m.new.glyphs
                l.invariant.fits.in_order m.ensures.fits.in_order m.ensures.merged ∙ l.invariant.same;
            merged =
                ap (λ s. merge_all c.args.level (graphemes_from s (l.i + 1) rest) (with_range next.pending next.glyphs))
                w.start-is
                ∙ ap (λ pending. merge_all c.args.level (graphemes_from l.i (l.i + 1) rest) (with_range pending next.glyphs))
                w.pending-is
                ∙ ap (λ gs. merge_all c.args.level (graphemes_from l.i (l.i + 1) rest) (with_range m.result gs))
                w.glyphs-is
                ∙ ap (merge_all c.args.level (graphemes_from l.i (l.i + 1) rest)) m.ensures.merged
                ∙ ap (λ sts. merge_all c.args.level sts (with_range l.pending l.glyphs)) (sym ends)
                ∙ l.invariant.merged;
          }
      | else-not-is_continuation w ↦
          let goes_on =
          grapheme_goes_on l.start l.i l.glyphs all (omega arith) l.invariant.same
          (sym c.is_continuation.ensures ∙ w.if-not-is_continuation.false) in
          record {
            fits = subst (λ pending. RangeFits pending next.glyphs) (sym w.pending-is)
                (subst (RangeFits l.pending) (sym w.glyphs-is) l.invariant.fits);
            in_order = omega (arith, w.start-is, l.invariant.in_order);
            same = ap continuations w.glyphs-is ∙ l.invariant.same;
            merged =
                ap (λ s. merge_all c.args.level (graphemes_from s (l.i + 1) rest) (with_range next.pending next.glyphs))
                w.start-is
                ∙ ap (λ pending. merge_all c.args.level (graphemes_from l.start (l.i + 1) rest) (with_range pending next.glyphs))
                w.pending-is
                ∙ ap (λ gs. merge_all c.args.level (graphemes_from l.start (l.i + 1) rest) (with_range l.pending gs))
                w.glyphs-is
                ∙ ap (λ sts. merge_all c.args.level sts (with_range l.pending l.glyphs)) (sym goes_on)
                ∙ l.invariant.merged;
          }
    ]

pub returns : goal.returns
returns c =
    let l = c.loop-i in
    let all = c.args.glyphs.now in
    let whole = with_range l.pending l.glyphs in
    let level = c.args.level in
    let some : 1 ≤ length all = grind (arith, nat_tests, c.is_empty.ensures, c.if-is_empty.false) in
    let end : length l.glyphs ≡ l.i = omega (arith, c.loop-i-test.false, l.auto.i-end, some, l.auto.glyphs) in
    c.write_range_in.ensures
    ∙ c.merge_range_in-pending-2.ensures.merged
    ∙ ap (λ e. merge_all level ((l.start, e) ∷ []) whole) end
    ∙ ap (λ sts. merge_all level sts whole)
    (sym (last_grapheme l.start l.i l.glyphs all (omega (arith, end)) l.invariant.same))
    ∙ l.invariant.merged
