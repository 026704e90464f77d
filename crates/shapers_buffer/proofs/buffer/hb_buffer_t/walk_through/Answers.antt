-- The list as the buffer keeps it says the same, before the walk and after it.
use Rattle.std.proofs.Common.{◌≡◌, [], ◌++◌, drop, length, take, sym, ap, subst, ◌∙◌, arith}
use Rattle.std.proofs.lemmas.List.{take_at}
use Rattle.shapers_buffer.specs.Buffer.{Buffer}
use Rattle.shapers_buffer.specs.Clusters.{stretch_of, with_stretch}
use Rattle.shapers_buffer.specs.Glyphs.{Glyphs}
use Rattle.shapers_buffer.specs.Places.{without_last_zeros}
use Rattle.shapers_buffer.specs.Placements.{placed_by_all}
use Rattle.shapers_buffer.specs.contracts.buffer.hb_buffer_t.{the_view}
use Rattle.shapers_buffer.proofs.Arranging.{arranges_raw, all_placed_raw, changed_alone}
use Rattle.shapers_buffer.proofs.buffer.hb_buffer_t.walk_through.Goals as goal

pub walk_copy-requires-clause-arranges : goal.walk_copy-requires-clause-arranges
walk_copy-requires-clause-arranges g c =
    let a = c.args in
    let list = sym (ap without_last_zeros c.deref-2.ensures.value ∙ ap (λ (b : Buffer). b.places) c.self.view_is) in
    let text = sym (c.deref_mut.ensures.value ∙ ap (λ (b : Buffer). b.glyphs) c.self.view_is) in
    arranges_raw a.placements.now a.start a.end (length a.self.now.glyphs) (length c.deref_mut.result.now)
    a.self.now.places c.deref-2.result.now list (ap length text) c.requires.arranges

pub walk_copy-requires-clause-walkable : goal.walk_copy-requires-clause-walkable
walk_copy-requires-clause-walkable g c =
    let a = c.args in
    let ps = a.placements.now in
    let raw = c.deref-2.result.now in
    let list = sym (ap without_last_zeros c.deref-2.ensures.value ∙ ap (λ (b : Buffer). b.places) c.self.view_is) in
    let text = sym (c.deref_mut.ensures.value ∙ ap (λ (b : Buffer). b.glyphs) c.self.view_is) in
    let before : placed_by_all ps a.start a.end a.self.now.places a.self.now.glyphs
    ≡ placed_by_all ps a.start a.end raw c.deref_mut.result.now =
    ap (placed_by_all ps a.start a.end a.self.now.places) text
    ∙ sym (all_placed_raw ps a.start a.end a.self.now.places raw c.deref_mut.result.now list) in
    subst (g.W.GlyphWalk.can_walk a.walk.now) (ap (stretch_of a.start a.end) before) c.requires.walkable

pub returns-clause-walked : goal.returns-clause-walked
returns-clause-walked g c =
    let a = c.args in
    let ps = a.placements.now in
    let raw = c.deref-2.result.now in
    let items = c.self.inside.places.items in
    let new = c.walk_copy.new.glyphs in
    let kept = take c.self.inside.info.len (new ++ drop (length new) c.self.inside.info.items) in
    let list = sym (ap without_last_zeros c.deref-2.ensures.value ∙ ap (λ (b : Buffer). b.places) c.self.view_is) in
    let text = sym (c.deref_mut.ensures.value ∙ ap (λ (b : Buffer). b.glyphs) c.self.view_is) in
    let before : placed_by_all ps a.start a.end raw c.deref_mut.result.now
    ≡ placed_by_all ps a.start a.end a.self.now.places a.self.now.glyphs =
    all_placed_raw ps a.start a.end a.self.now.places raw c.deref_mut.result.now list
    ∙ ap (placed_by_all ps a.start a.end a.self.now.places) (sym text) in
    let long : length new ≡ length c.self.inside.info.items =
    c.walk_copy.ensures.same_length ∙ ap length c.deref_mut.ensures.value in
    let whole : kept ≡ new =
    take_at new (drop (length new) c.self.inside.info.items) c.self.inside.info.len (omega arith) in
    let after : placed_by_all ps a.start a.end raw new ≡ placed_by_all ps a.start a.end (without_last_zeros items) kept =
    ap (placed_by_all ps a.start a.end raw) (sym whole)
    ∙ all_placed_raw ps a.start a.end (without_last_zeros items) raw kept
    (sym (ap without_last_zeros c.deref-2.ensures.value)) in
    subst (g.W.GlyphWalk.walks a.walk.now c.walk_copy.new.walk
    (stretch_of a.start a.end (placed_by_all ps a.start a.end a.self.now.places a.self.now.glyphs)))
    (ap (stretch_of a.start a.end) after)
    (subst (λ (gs : Glyphs). g.W.GlyphWalk.walks a.walk.now c.walk_copy.new.walk gs
    (stretch_of a.start a.end (placed_by_all ps a.start a.end raw new)))
    (ap (stretch_of a.start a.end) before) c.walk_copy.ensures.walked)

pub returns-clause-glyphs : goal.returns-clause-glyphs
returns-clause-glyphs g c =
    let a = c.args in
    let b = the_view c.self.inside in
    let ps = a.placements.now in
    let raw = c.deref-2.result.now in
    let items = c.self.inside.places.items in
    let new = c.walk_copy.new.glyphs in
    let kept = take c.self.inside.info.len (new ++ drop (length new) c.self.inside.info.items) in
    let list = sym (ap without_last_zeros c.deref-2.ensures.value ∙ ap (λ (b : Buffer). b.places) c.self.view_is) in
    let text = sym (c.deref_mut.ensures.value ∙ ap (λ (b : Buffer). b.glyphs) c.self.view_is) in
    let old = placed_by_all ps a.start a.end a.self.now.places a.self.now.glyphs in
    let before : placed_by_all ps a.start a.end raw c.deref_mut.result.now ≡ old =
    all_placed_raw ps a.start a.end a.self.now.places raw c.deref_mut.result.now list
    ∙ ap (placed_by_all ps a.start a.end a.self.now.places) (sym text) in
    let long : length new ≡ length c.self.inside.info.items =
    c.walk_copy.ensures.same_length ∙ ap length c.deref_mut.ensures.value in
    let whole : kept ≡ new =
    take_at new (drop (length new) c.self.inside.info.items) c.self.inside.info.len (omega arith) in
    let moved = placed_by_all ps a.start a.end (without_last_zeros items) kept in
    let after : placed_by_all ps a.start a.end raw new ≡ moved =
    ap (placed_by_all ps a.start a.end raw) (sym whole)
    ∙ all_placed_raw ps a.start a.end (without_last_zeros items) raw kept
    (sym (ap without_last_zeros c.deref-2.ensures.value)) in
    let others : moved ≡ with_stretch a.start a.end (λ _. stretch_of a.start a.end moved) old =
    changed_alone a.start a.end (placed_by_all ps a.start a.end raw c.deref_mut.result.now)
    (placed_by_all ps a.start a.end raw new) old moved before after c.walk_copy.ensures.others in
    ap (λ (gs : Glyphs). record b { glyphs = gs; places = [] }) others
    ∙ ap (λ (v : Buffer). record v {
      glyphs = with_stretch a.start a.end (λ _. stretch_of a.start a.end moved) old;
      places = [];
    }) c.self.view_is
