-- One more glyph, which ends a grapheme or goes on with it.
use Rattle.std.proofs.Common.{◌+◌, drop, sym, ap, ◌∙◌, arith}
use Rattle.shapers_buffer.specs.GlyphFlags.{unsafe_all}
use Rattle.shapers_prepare.specs.Graphemes.{continuations, graphemes_from}
use Rattle.shapers_prepare.proofs.GraphemeSteps.{continuations-flagged, grapheme_ends, grapheme_goes_on}
use Rattle.shapers_prepare.proofs.ot_shape_prepare.clusters.flag_graphemes_in.Goals as goal
use Rattle.shapers_prepare.proofs.ot_shape_prepare.clusters.flag_graphemes_in.Goals.{then-not-is_continuation, else-not-is_continuation}

pub loop-i-preserved : goal.loop-i-preserved
loop-i-preserved c =
    let l = c.loop-i in
    let all = c.args.glyphs.now in
    let next = c.if-not-is_continuation in
    let rest = drop (l.i + 1) (continuations all) in
    elim c.if-not-is_continuation.branch [
      | then-not-is_continuation w ↦
          let ends = grapheme_ends l.start l.i l.glyphs all (omega arith) l.invariant.same
          (sym c.is_continuation.ensures ∙ w.if-not-is_continuation.true) in
          let flagged = w.glyphs-is ∙ w.unsafe_to_break_in.ensures in
          record {
            in_order = omega (arith, w.start-is);
            same = ap continuations flagged
                ∙ continuations-flagged l.start l.i l.glyphs (omega (arith, l.invariant.in_order)) ∙ l.invariant.same;
            flagged =
                ap (λ s. unsafe_all (graphemes_from s (l.i + 1) rest) next.glyphs) w.start-is
                ∙ ap (unsafe_all (graphemes_from l.i (l.i + 1) rest)) flagged
                ∙ ap (λ sts. unsafe_all sts l.glyphs) (sym ends)
                ∙ l.invariant.flagged;
          }
      | else-not-is_continuation w ↦
          let goes_on =
          grapheme_goes_on l.start l.i l.glyphs all (omega arith) l.invariant.same
          (sym c.is_continuation.ensures ∙ w.if-not-is_continuation.false) in
          record {
            in_order = omega (arith, w.start-is, l.invariant.in_order);
            same = ap continuations w.glyphs-is ∙ l.invariant.same;
            flagged =
                ap (λ s. unsafe_all (graphemes_from s (l.i + 1) rest) next.glyphs) w.start-is
                ∙ ap (unsafe_all (graphemes_from l.start (l.i + 1) rest)) w.glyphs-is
                ∙ ap (λ sts. unsafe_all sts l.glyphs) (sym goes_on)
                ∙ l.invariant.flagged;
          }
    ]
