-- Where nothing moves, the syllable as it stands is the text's.
use Rattle.std.proofs.Common.{◌≡◌, [], ◌++◌, drop, length, take, sym, ap, subst, ◌∙◌, arith}
use Rattle.std.proofs.lemmas.List.{take_at}
use Rattle.shapers_buffer.specs.Buffer.{Buffer}
use Rattle.shapers_buffer.specs.Clusters.{stretch_of, with_stretch}
use Rattle.shapers_buffer.specs.Glyphs.{Glyphs}
use Rattle.shapers_buffer.specs.Places.{without_last_zeros}
use Rattle.shapers_buffer.specs.Placements.{MayArrange, placed_by_all}
use Rattle.shapers_buffer.specs.contracts.buffer.hb_buffer_t.{the_view}
use Rattle.shapers_buffer.proofs.Arranging.{changed_alone, nothing_moved}
use Rattle.shapers_buffer.proofs.buffer.hb_buffer_t.walk_arranged.Goals as goal

pub walk_in-requires-clause-walkable : goal.walk_in-requires-clause-walkable
walk_in-requires-clause-walkable g c =
    let a = c.args in
    let text = c.deref_mut.ensures.value ∙ ap (λ (b : Buffer). b.glyphs) c.self.view_is in
    let none = nothing_moved a.placements.now a.start a.end a.self.now.places a.self.now.glyphs c.requires.arranges
    (sym c.moves_nothing.ensures ∙ c.if-moves_nothing.true) in
    subst (g.W.GlyphWalk.can_walk a.walk.now) (ap (stretch_of a.start a.end) (none ∙ sym text))
    c.requires.walkable

pub returns-then-moves_nothing-clause-walked : goal.returns-then-moves_nothing-clause-walked
returns-then-moves_nothing-clause-walked g c =
    let a = c.args in
    let ps = a.placements.now in
    let test = sym c.moves_nothing.ensures ∙ c.if-moves_nothing.true in
    let items = c.self.inside.places.items in
    let new = c.walk_in.new.glyphs in
    let kept = take c.self.inside.info.len (new ++ drop (length new) c.self.inside.info.items) in
    let list : without_last_zeros items ≡ a.self.now.places = ap (λ (b : Buffer). b.places) c.self.view_is in
    let text = c.deref_mut.ensures.value ∙ ap (λ (b : Buffer). b.glyphs) c.self.view_is in
    let before : c.deref_mut.result.now ≡ placed_by_all ps a.start a.end a.self.now.places a.self.now.glyphs =
    text ∙ sym (nothing_moved ps a.start a.end a.self.now.places a.self.now.glyphs c.requires.arranges test) in
    let long : length new ≡ length c.self.inside.info.items =
    c.walk_in.ensures.same_length ∙ ap length c.deref_mut.ensures.value in
    let whole : kept ≡ new =
    take_at new (drop (length new) c.self.inside.info.items) c.self.inside.info.len (omega arith) in
    let as_long : length kept ≡ length a.self.now.glyphs =
    ap length whole ∙ c.walk_in.ensures.same_length ∙ ap length text in
    let fits : MayArrange ps a.start a.end (length kept) (without_last_zeros items) =
    subst (λ ws. MayArrange ps a.start a.end (length kept) ws) (sym list)
    (subst (λ n. MayArrange ps a.start a.end n a.self.now.places) (sym as_long) c.requires.arranges) in
    let after : new ≡ placed_by_all ps a.start a.end (without_last_zeros items) kept =
    sym (nothing_moved ps a.start a.end (without_last_zeros items) kept fits test ∙ whole) in
    subst (g.W.GlyphWalk.walks a.walk.now c.walk_in.new.walk
    (stretch_of a.start a.end (placed_by_all ps a.start a.end a.self.now.places a.self.now.glyphs)))
    (ap (stretch_of a.start a.end) after)
    (subst (λ (gs : Glyphs). g.W.GlyphWalk.walks a.walk.now c.walk_in.new.walk gs (stretch_of a.start a.end new))
    (ap (stretch_of a.start a.end) before) c.walk_in.ensures.walked)

pub returns-then-moves_nothing-clause-glyphs : goal.returns-then-moves_nothing-clause-glyphs
returns-then-moves_nothing-clause-glyphs g c =
    let a = c.args in
    let b = the_view c.self.inside in
    let ps = a.placements.now in
    let test = sym c.moves_nothing.ensures ∙ c.if-moves_nothing.true in
    let items = c.self.inside.places.items in
    let new = c.walk_in.new.glyphs in
    let kept = take c.self.inside.info.len (new ++ drop (length new) c.self.inside.info.items) in
    let list : without_last_zeros items ≡ a.self.now.places = ap (λ (b : Buffer). b.places) c.self.view_is in
    let text = c.deref_mut.ensures.value ∙ ap (λ (b : Buffer). b.glyphs) c.self.view_is in
    let old = placed_by_all ps a.start a.end a.self.now.places a.self.now.glyphs in
    let before : c.deref_mut.result.now ≡ old =
    text ∙ sym (nothing_moved ps a.start a.end a.self.now.places a.self.now.glyphs c.requires.arranges test) in
    let long : length new ≡ length c.self.inside.info.items =
    c.walk_in.ensures.same_length ∙ ap length c.deref_mut.ensures.value in
    let whole : kept ≡ new =
    take_at new (drop (length new) c.self.inside.info.items) c.self.inside.info.len (omega arith) in
    let as_long : length kept ≡ length a.self.now.glyphs =
    ap length whole ∙ c.walk_in.ensures.same_length ∙ ap length text in
    let fits : MayArrange ps a.start a.end (length kept) (without_last_zeros items) =
    subst (λ ws. MayArrange ps a.start a.end (length kept) ws) (sym list)
    (subst (λ n. MayArrange ps a.start a.end n a.self.now.places) (sym as_long) c.requires.arranges) in
    let moved = placed_by_all ps a.start a.end (without_last_zeros items) kept in
    let after : new ≡ moved =
    sym (nothing_moved ps a.start a.end (without_last_zeros items) kept fits test ∙ whole) in
    let others : moved ≡ with_stretch a.start a.end (λ _. stretch_of a.start a.end moved) old =
    changed_alone a.start a.end c.deref_mut.result.now new old moved before after c.walk_in.ensures.others in
    ap (λ (gs : Glyphs). record b { glyphs = gs; places = [] }) others
    ∙ ap (λ (v : Buffer). record v {
      glyphs = with_stretch a.start a.end (λ _. stretch_of a.start a.end moved) old;
      places = [];
    }) c.self.view_is
