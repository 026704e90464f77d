-- How many copies a sequence is laid in.
use Rattle.std.proofs.Common.{◌≡◌, ℕ, suc, ◌+◌, ◌*◌, ℤ, ◌-ℤ◌, Bool, true, false, cond, List, [], ◌∷◌, ◌++◌, length, reverse, replicate, refl, ap, arith}
use Rattle.std.proofs.lemmas.List.{append-nil, length-append, length-replicate}
use Rattle.std.proofs.lemmas.List.Concat.{flat_map-append}
use Rattle.std.proofs.lemmas.Grind.{reverse_onto}
use Rattle.shapers_base.specs.Font.{Font}
use Rattle.shapers_stretch.specs.Cells.{Cell, glyphs_of, repeats}
use Rattle.shapers_stretch.specs.declared.ot_shaper_arabic_stretch.measuring.TileSequence.{TileSequence}
use Rattle.shapers_stretch.specs.Measure.{times_added, overlap}
use Rattle.shapers_stretch.specs.Stretch.{Copy, copies, copies_of, laid, repeating, width_of}
use Rattle.shapers_stretch.proofs.Moves.{length_if}
use Rattle.shapers_stretch.proofs.Pen.{laid_is, laid_on, pen_behind}

copies_if : (b : Bool) (n : ℕ) (first copy : Copy) → length (first ∷ cond b (replicate n copy) []) ≡ suc (cond b n 0)
copies_if true n first copy = ap suc (length-replicate n copy)
copies_if false n first copy = refl

count_if : (b : Bool) (n k m total : ℕ) → total ≡ m + n * k → total + suc (cond b n 0) ≡ suc m + n * cond b (suc k) k
count_if true n k = omega arith
count_if false n k = omega arith

-- one for each tile, and the added copies of those that repeat
pub length-copies : (font : Font) (z : TileSequence) (cs : List Cell)
    → length (copies font z cs) ≡ length cs + times_added z * length (repeating (glyphs_of cs))
length-copies font z [] = omega arith
length-copies font z (c ∷ cs) =
    let tile = copies_if (repeats c.0)
    (times_added z) (record { tile = c; move = width_of font c.0 }) (record {
      tile = c;
      move = width_of font c.0 -ℤ overlap z;
    }) in
    cc (
      reverse_onto cs c [],
      flat_map-append (copies_of font z) (reverse cs) (c ∷ []),
      length-append (copies font z cs) (copies_of font z c ++ []),
      append-nil (copies_of font z c),
      count_if (repeats c.0) (times_added z) (length (repeating (glyphs_of cs))) (length cs)
          (length (copies font z cs)) (length-copies font z cs),
      length_if (repeats c.0) c.0 (repeating (glyphs_of cs)),
    )

length-laid_on : (right_to_left : Bool) (pen : ℤ) (cs : List Copy) → length (laid_on right_to_left pen cs) ≡ length cs
length-laid_on right_to_left pen [] = refl
length-laid_on right_to_left pen (c ∷ cs) =
    ap suc (length-laid_on right_to_left (pen_behind right_to_left pen c.move) cs)

pub length-laid : (right_to_left : Bool) (from : ℤ) (cs : List Copy) → length (laid right_to_left from cs) ≡ length cs
length-laid = search (laid_is, length-laid_on)
