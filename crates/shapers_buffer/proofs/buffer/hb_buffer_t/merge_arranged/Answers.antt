-- Where nothing moves, the merge is the buffer's own.
use Rattle.std.proofs.Common.{length, sym, ap, subst, ◌∙◌}
use Rattle.shapers_buffer.specs.Buffer.{Buffer}
use Rattle.shapers_buffer.specs.Clusters.{merge}
use Rattle.shapers_buffer.specs.Glyphs.{Glyphs}
use Rattle.shapers_buffer.specs.Placements.{MayArrange, arranged}
use Rattle.shapers_buffer.proofs.Arranging.{length-merged, nothing_moved}
use Rattle.shapers_buffer.proofs.buffer.hb_buffer_t.merge_arranged.Goals as goal

pub returns-then-moves_nothing-clause-same_length : goal.returns-then-moves_nothing-clause-same_length
returns-then-moves_nothing-clause-same_length c =
    ap (λ (b : Buffer). length b.glyphs) c.merge_clusters.ensures
    ∙ length-merged c.args.self.now.level c.args.from c.args.to c.args.self.now.glyphs c.requires.in_order

pub returns-then-moves_nothing-clause-glyphs : goal.returns-then-moves_nothing-clause-glyphs
returns-then-moves_nothing-clause-glyphs c =
    let a = c.args in
    let b = a.self.now in
    let ps = a.placements.now in
    let new = c.merge_clusters.new.self in
    let stay = sym c.moves_nothing.ensures ∙ c.if-moves_nothing.true in
    let long = returns-then-moves_nothing-clause-same_length c in
    let list = ap (λ (b : Buffer). b.places) c.merge_clusters.ensures in
    let fits : MayArrange ps a.start a.end (length new.glyphs) new.places =
    subst (λ ws. MayArrange ps a.start a.end (length new.glyphs) ws) (sym list)
    (subst (λ n. MayArrange ps a.start a.end n b.places) (sym long) c.requires.arranges) in
    let before = nothing_moved ps a.start a.end b.places b.glyphs c.requires.arranges stay in
    let behind = nothing_moved ps a.start a.end new.places new.glyphs fits stay in
    ap (λ (gs : Glyphs). let y : Buffer = record (arranged ps a.start a.end new) { glyphs = gs } in y) behind
    ∙ ap (λ (x : Buffer). let y : Buffer = record x { places = (arranged ps a.start a.end b).places } in y)
    c.merge_clusters.ensures
    ∙ ap (λ (gs : Glyphs). let y : Buffer = record (arranged ps a.start a.end b) { glyphs = merge b.level a.from a.to gs } in y)
    (sym before)
