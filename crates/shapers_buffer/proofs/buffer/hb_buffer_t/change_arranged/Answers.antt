-- One place more.
use Rattle.std.proofs.Common.{◌≡◌, ◌+◌, length, map, sym, ap, subst, ◌∙◌, arith}
use Rattle.shapers_buffer.specs.Buffer.{Buffer}
use Rattle.shapers_buffer.specs.Clusters.{with_stretch}
use Rattle.shapers_buffer.specs.Glyph.{default_glyph}
use Rattle.shapers_buffer.specs.Placements.{MayArrange, old_place_by_all}
use Rattle.shapers_buffer.proofs.Arranging.{changed_more, length-one_changed, none_changed, only_glyphs}
use Rattle.shapers_buffer.proofs.buffer.hb_buffer_t.change_arranged.Goals as goal

pub arranged_place-place-requires-clause-arranges : goal.arranged_place-place-requires-clause-arranges
arranged_place-place-requires-clause-arranges g c =
    let v = c.loop-i.invariant in
    let a = c.args in
    subst (λ (b : Buffer). MayArrange a.placements.now a.start a.end (length b.glyphs) b.places) (sym v.others)
    (subst (λ n. MayArrange a.placements.now a.start a.end n a.self.now.places) (sym v.long) c.requires.arranges)

pub loop-i-init : goal.loop-i-init
loop-i-init g c = search (arith, none_changed)

pub loop-i-preserved : goal.loop-i-preserved
loop-i-preserved g c =
    let a = c.args in
    let l = c.loop-i in
    let v = l.invariant in
    let f = g.C.GlyphChange.changed a.change.now in
    let q = c.arranged_place-place.result in
    let list : l.self.places ≡ a.self.now.places = ap (λ (b : Buffer). b.places) v.others in
    let place : q ≡ old_place_by_all a.placements.now a.start a.end a.self.now.places l.i =
    c.arranged_place-place.ensures.place
    ∙ ap (λ qs. old_place_by_all a.placements.now a.start a.end qs l.i) list in
    let next : c.change_each.new.self.glyphs ≡ with_stretch q (q + 1) (map f) l.self.glyphs =
    ap (λ (b : Buffer). b.glyphs) c.change_each.ensures in
    record {
      others = only_glyphs a.self.now l.self c.change_each.new.self _ v.others c.change_each.ensures;
      long = ap length next ∙ length-one_changed f q l.self.glyphs c.arranged_place-place.ensures.within ∙ v.long;
      from = omega arith;
      changed = changed_more default_glyph f a.placements.now a.start a.end a.self.now.places a.self.now.glyphs
          l.self.glyphs c.change_each.new.self.glyphs a.from l.i c.requires.arranges v.from (omega arith) v.long
          v.changed (next ∙ ap (λ q. with_stretch q (q + 1) (map f) l.self.glyphs) place);
    }
