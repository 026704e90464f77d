-- The start at the first SARA AM, and one more place: a SARA AM merges, another character doesn't.
use Rattle.std.proofs.Common.{[], get_or, cond, sym, ap, ◌∙◌, subst, arith}
use Rattle.std.proofs.lemmas.List.{get_or-map}
use Rattle.shapers_buffer.specs.Glyphs.{Glyphs}
use Rattle.shapers_buffer.specs.ClusterRanges.{RangeFits, with_range}
use Rattle.shapers_buffer.specs.Clusters.{merge_all}
use Rattle.shapers_buffer.specs.Glyph.{default_glyph}
use Rattle.shapers_text.specs.Thai.{stretch_of_sara_am}
use Rattle.shapers_text.specs.ThaiWalk.{above_marks_before}
use Rattle.shapers_text.proofs.ThaiOthers.{merging_first}
use Rattle.shapers_text.proofs.ThaiStretches.{merging_turn}
use Rattle.shapers_text.proofs.ot_shaper_thai.sara_am.merge_all_sara_am.Goals as goal
use Rattle.shapers_text.proofs.ot_shaper_thai.sara_am.merge_all_sara_am.Goals.{then-is_sara_am, else-is_sara_am}

pub loop-i-init : goal.loop-i-init
loop-i-init c = record {
  fits = search arith;
  merging = merging_first c.args.level c.args.glyphs.now c.args.len c.args.first c.requires.in_order c.requires.none;
}

pub loop-i-preserved : goal.loop-i-preserved
loop-i-preserved c =
    let l = c.loop-i in
    let next = c.if-is_sara_am in
    let level = c.args.level in
    let start = c.args.glyphs.now in
    let whole = with_range l.pending l.glyphs in
    let sts = stretch_of_sara_am level l.i (above_marks_before l.glyphs l.i) in
    let read = sym (get_or-map (λ x. x.glyph_id) l.glyphs l.i default_glyph 0 (omega arith)) in
    let turn = λ (after : Glyphs). merging_turn level start l.glyphs after l.pending c.args.len l.i
    ((get_or l.glyphs l.i default_glyph).glyph_id)
    c.requires.in_range c.loop-i-test.true l.invariant.fits l.invariant.merging read in
    elim c.if-is_sara_am.branch [
      | then-is_sara_am w ↦ record {
        fits = subst (λ pending. RangeFits pending next.glyphs) (sym w.pending-is)
            (subst (RangeFits w.merge_sara_am-pending.result) (sym w.glyphs-is) w.merge_sara_am-pending.ensures.fits);
        merging = turn (with_range next.pending next.glyphs)
            (ap (λ pending. with_range pending next.glyphs) w.pending-is ∙ ap (with_range w.merge_sara_am-pending.result) w.glyphs-is
            ∙ w.merge_sara_am-pending.ensures.merged
            ∙ ap (λ b. merge_all level (cond b sts []) whole) (sym w.if-is_sara_am.true ∙ c.is_sara_am.ensures));
      }
      | else-is_sara_am w ↦ record {
        fits = subst (λ pending. RangeFits pending next.glyphs) (sym w.pending-is)
            (subst (RangeFits l.pending) (sym w.glyphs-is) l.invariant.fits);
        merging = turn (with_range next.pending next.glyphs)
            (ap (λ pending. with_range pending next.glyphs) w.pending-is ∙ ap (with_range l.pending) w.glyphs-is
            ∙ ap (λ b. merge_all level (cond b sts []) whole) (sym w.if-is_sara_am.false ∙ c.is_sara_am.ensures));
      }
    ]
