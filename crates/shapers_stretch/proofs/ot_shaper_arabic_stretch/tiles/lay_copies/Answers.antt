use Rattle.std.proofs.Common.{arith}
use Rattle.std.proofs.Common.{◌∙◌, ◌-◌, ◌+◌, of_z, subst, to_z, replicate, ◌∷◌, []}
use Rattle.std.specs.List.{zip}
use Rattle.std.proofs.lemmas.List.{replicate_more}
use mir.Syntax.{w64}
use Rattle.shapers_stretch.specs.LayingWalk.{CanLay, Lays}
use Rattle.shapers_stretch.specs.Stretch.{Copy}
use Rattle.shapers_stretch.proofs.LaidCopies.{can_rest, lays_then, replicate_first}
use Rattle.shapers_stretch.proofs.ot_shaper_arabic_stretch.tiles.lay_copies.Goals as goal

pub lay_copy-pen-requires-clause-can : goal.lay_copy-pen-requires-clause-can
lay_copy-pen-requires-clause-can = search (arith, replicate_first)

pub loop-preserved : goal.loop-preserved
loop-preserved c =
    let copy : Copy =
    record { tile = (c.args.tile.glyph, c.args.tile.position); move = to_z w64 (of_z w64 c.args.step) } in
    let l = c.loop in
    let n = c.lay_copy-pen.new in
    let after = c.lay_copy-pen.result in
    let all = subst (λ copies. CanLay c.args.right_to_left copies l.pen l.glyphs l.positions)
    (replicate_first c.args.count l.counter copy c.loop-test.true) l.invariant.can in
    let old = zip c.args.glyphs.now c.args.positions.now in
    let now = zip n.glyphs n.positions in
    record {
      both = c.lay_copy-pen.ensures.both;
      same_length = c.lay_copy-pen.ensures.same_length ∙ l.invariant.same_length;
      near = c.lay_copy-pen.ensures.near;
      can = can_rest c.args.right_to_left (copy ∷ [])
          (replicate (c.args.count - (l.counter + 1)) copy) l.pen after l.glyphs n.glyphs l.positions n.positions
          (zip l.glyphs l.positions) now all c.lay_copy-pen.ensures.lays c.lay_copy-pen.ensures.same_length
          c.lay_copy-pen.ensures.both;
      lays = subst (λ copies. Lays c.args.right_to_left copies c.args.pen after old now) (replicate_more l.counter copy)
          (lays_then c.args.right_to_left (replicate l.counter copy) (copy ∷ []) c.args.pen l.pen after old
          (zip l.glyphs l.positions) now l.invariant.lays c.lay_copy-pen.ensures.lays);
    }
