-- The glyph is read at its old place.
use Rattle.std.proofs.Common.{◌≡◌, length, get_or, sym, ap, ◌∙◌, arith}
use Rattle.shapers_buffer.specs.Glyph.{default_glyph}
use Rattle.shapers_buffer.specs.Glyphs.{Glyphs}
use Rattle.shapers_buffer.proofs.Arranging.{all_long, all_reads, get_or-default}
use Rattle.shapers_buffer.proofs.buffer.placements.Arranged.get.Goals as goal

pub arranged_place-place-requires-clause-inside : goal.arranged_place-place-requires-clause-inside
arranged_place-place-requires-clause-inside c =
    let a = c.self.inside in
    let long = all_long a.placements a.start a.end a.buffer.now.places a.buffer.now.glyphs c.self.invariant in
    let n : length c.args.self.now ≡ length a.buffer.now.glyphs = sym (ap length c.self.view_is) ∙ long in
    omega arith

pub returns : goal.returns
returns c =
    let a = c.self.inside in
    let d = c.get.result in
    let long = all_long a.placements a.start a.end a.buffer.now.places a.buffer.now.glyphs c.self.invariant in
    let n : length c.args.self.now ≡ length a.buffer.now.glyphs = sym (ap length c.self.view_is) ∙ long in
    c.get.ensures ∙ ap (λ q. get_or a.buffer.now.glyphs q d) c.arranged_place-place.ensures.place
    ∙ sym (all_reads d a.placements a.start a.end a.buffer.now.places a.buffer.now.glyphs c.args.index c.self.invariant
    (omega arith))
    ∙ ap (λ (gs : Glyphs). get_or gs c.args.index d) c.self.view_is
    ∙ get_or-default c.args.self.now c.args.index d default_glyph c.requires
