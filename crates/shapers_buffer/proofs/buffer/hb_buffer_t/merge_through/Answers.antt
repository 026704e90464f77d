-- The range of the merge, written through the placements.
use Rattle.std.proofs.Common.{◌≡◌, ◌≤◌, true, sym, ap, subst, ◌∙◌, arith}
use Rattle.shapers_buffer.specs.Buffer.{Buffer}
use Rattle.shapers_buffer.specs.Clusters.{merge, merges}
use Rattle.shapers_buffer.specs.ClusterRanges.{with_range}
use Rattle.shapers_buffer.specs.Glyphs.{Glyphs}
use Rattle.shapers_buffer.specs.Placements.{arranged}
use Rattle.shapers_buffer.proofs.Arranging.{merge_here}
use Rattle.shapers_buffer.proofs.buffer.hb_buffer_t.merge_through.Goals as goal

pub merged_range-range-requires-clause-in_range : goal.merged_range-range-requires-clause-in_range
merged_range-range-requires-clause-in_range c =
    subst (λ n. c.args.to ≤ n) (sym c.arranged.ensures.same_length) c.requires.in_range

pub change_arranged-requires-clause-in_range : goal.change_arranged-requires-clause-in_range
change_arranged-requires-clause-in_range c =
    subst (λ n. c.merged_range-range.result.end ≤ n) c.arranged.ensures.same_length c.merged_range-range.ensures.in_range

pub returns-then-to-from-ge2-clause-glyphs : goal.returns-then-to-from-ge2-clause-glyphs
returns-then-to-from-ge2-clause-glyphs c =
    let a = c.args in
    let ps = a.placements.now in
    let old = arranged ps a.start a.end a.self.now in
    let range = c.merged_range-range.result in
    let text = c.arranged.ensures.text in
    let merged = ap (with_range range) (sym text) ∙ c.merged_range-range.ensures.merged in
    let level : merges a.self.now.level ≡ true =
    subst (λ v. merges v ≡ true) (ap (λ (b : Buffer). b.level) c.self.view_is)
    (sym c.merges.ensures ∙ c.if-merges.true) in
    let here = merge_here a.self.now.level a.from a.to c.arranged.result (with_range range old.glyphs) level (omega arith) merged in
    c.change_arranged.ensures.glyphs
    ∙ ap (λ (gs : Glyphs). record old { glyphs = gs }) (here ∙ ap (merge a.self.now.level a.from a.to) text)
