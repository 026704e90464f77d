-- There is room for the next glyph and its circle.
use Rattle.std.proofs.Common.{◌+◌, [], ◌∷◌, ◌++◌, drop, get_or, length, arith, ap}
use Rattle.std.proofs.lemmas.List.{length-append, length_push}
use Rattle.shapers_buffer.specs.Glyph.{default_glyph}
use Rattle.shapers_prepare.specs.Vowels.{circle_before_last, left_behind, vowels_circled_from}
use Rattle.shapers_prepare.proofs.VowelSteps.{parted_next}
use Rattle.shapers_prepare.proofs.ot_shape_prepare.vowels.write_circled.Goals as goal

pub write_with_circle-requires : goal.write_with_circle-requires
write_with_circle-requires c =
    let l = c.loop-i in
    let s = c.args.script in
    let gs = c.args.glyphs.now in
    let g = get_or gs l.i default_glyph in
    let circle = circle_before_last l.left g in
    let rest = vowels_circled_from s l.left (drop l.i gs) in
    let behind = vowels_circled_from s (left_behind s l.left g (drop (l.i + 1) gs)) (drop (l.i + 1) gs) in
    let next = parted_next s l.left gs l.i (omega arith) in
    omega (
      arith,
      ap length l.invariant.text,
      length-append l.to.items rest,
      length-append c.args.to.now.items
          (vowels_circled_from s 0 gs),
      ap length next,
      length-append (circle ++ g ∷ []) behind,
      length_push circle g,
      l.invariant.capacity,
      c.requires.room,
    )
