-- The list as the buffer keeps it says the same, and the syllable is written.
use Rattle.std.proofs.Common.{◌≡◌, drop, length, refl, sym, ap, ◌∙◌, arith}
use Rattle.std.proofs.lemmas.List.{take_at}
use Rattle.shapers_buffer.specs.Buffer.{Buffer}
use Rattle.shapers_buffer.specs.Clusters.{stretch_of}
use Rattle.shapers_buffer.specs.Glyphs.{Glyphs}
use Rattle.shapers_buffer.specs.Places.{without_last_zeros}
use Rattle.shapers_buffer.specs.Placements.{placed_by_all}
use Rattle.shapers_buffer.specs.contracts.buffer.hb_buffer_t.{the_view}
use Rattle.shapers_buffer.proofs.Arranging.{all_long, arranges_raw, all_placed_raw, written_once}
use Rattle.shapers_buffer.proofs.buffer.hb_buffer_t.apply_one_after_another.Goals as goal
use Rattle.shapers_buffer.proofs.buffer.hb_buffer_t.apply_one_after_another.Goals.{After-deref_mut-2}

raw : (c : After-deref_mut-2) → c.args.self.now.places ≡ without_last_zeros c.deref-2.result.now
raw c = sym (ap without_last_zeros c.deref-2.ensures.value ∙ ap (λ (b : Buffer). b.places) c.self.view_is)

same : (c : After-deref_mut-2) → c.args.self.now.glyphs ≡ c.deref_mut.result.now
same c = sym (c.deref_mut.ensures.value ∙ ap (λ (b : Buffer). b.glyphs) c.self.view_is)

pub reorder-requires-clause-arranges : goal.reorder-requires-clause-arranges
reorder-requires-clause-arranges c =
    let a = c.args in
    arranges_raw a.placements.now a.start a.end (length a.self.now.glyphs) (length c.deref_mut.result.now)
    a.self.now.places c.deref-2.result.now (raw c) (ap length (same c)) c.requires

pub returns : goal.returns
returns c =
    let a = c.args in
    let b = the_view c.self.inside in
    let ps = a.placements.now in
    let list = sym (ap without_last_zeros c.deref-2.ensures.value ∙ ap (λ (b : Buffer). b.places) c.self.view_is) in
    let text = sym (c.deref_mut.ensures.value ∙ ap (λ (b : Buffer). b.glyphs) c.self.view_is) in
    let fits = arranges_raw ps a.start a.end (length a.self.now.glyphs) (length c.deref_mut.result.now)
    a.self.now.places c.deref-2.result.now list (ap length text) c.requires in
    let moved = placed_by_all ps a.start a.end c.deref-2.result.now c.deref_mut.result.now in
    let written : c.reorder.new.glyphs ≡ placed_by_all ps a.start a.end a.self.now.places a.self.now.glyphs =
    c.reorder.ensures
    ∙ written_once ps a.start a.end c.deref-2.result.now c.deref_mut.result.now (stretch_of a.start a.end moved) fits refl
    ∙ all_placed_raw ps a.start a.end a.self.now.places c.deref-2.result.now c.deref_mut.result.now list
    ∙ ap (placed_by_all ps a.start a.end a.self.now.places) (sym text) in
    let long : length c.reorder.new.glyphs ≡ length c.self.inside.info.items =
    ap length written ∙ all_long ps a.start a.end a.self.now.places a.self.now.glyphs c.requires ∙ ap length text
    ∙ ap length c.deref_mut.ensures.value in
    ap (λ (gs : Glyphs). record b { glyphs = gs })
    (take_at c.reorder.new.glyphs (drop (length c.reorder.new.glyphs) c.self.inside.info.items)
    c.self.inside.info.len (omega arith) ∙ written)
    ∙ ap (λ (v : Buffer). record v { glyphs = placed_by_all ps a.start a.end a.self.now.places a.self.now.glyphs })
    c.self.view_is
