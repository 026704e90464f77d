-- The copies of a sequence move the pen by its laid width.
use Rattle.std.proofs.Common.{◌≡◌, ◌<◌, ◌<ℤ◌, ℕ, zero, suc, ◌*◌, ℤ, pos, ◌+ℤ◌, ◌-ℤ◌, ◌*ℤ◌, neg_ℤ, Bool, true, false, cond, not, List, [], ◌∷◌, ◌++◌, length, map, reverse, replicate, refl, arith}
use Rattle.std.proofs.lemmas.Int.{ints}
use Rattle.std.proofs.lemmas.List.{append-nil, map-append}
use Rattle.std.proofs.lemmas.List.Concat.{flat_map-append}
use Rattle.std.proofs.lemmas.Grind.{reverse_onto}
use Rattle.shapers_stretch.specs.StretchLaws.{TilesFit, CoversTheWord}
use Rattle.shapers_stretch.proofs.Widths.{covers}
use Rattle.shapers_buffer.specs.Glyphs.{Glyphs}
use Rattle.shapers_base.specs.Font.{Font}
use Rattle.shapers_stretch.specs.Cells.{Cell, repeats, tiles_of, glyphs_of}
use Rattle.shapers_stretch.specs.declared.ot_shaper_arabic_stretch.measuring.TileSequence.{TileSequence}
use Rattle.shapers_stretch.specs.Measure.{times_added, overlap, total, laid_width}
use Rattle.shapers_stretch.specs.Stretch.{Copy, copies, copies_of, moves, width_of, repeating, fixed, sequence_of_part}
use Rattle.shapers_stretch.proofs.Sums.{total_cons, total-append, times_sum, total-replicate, times_neg}

-- the moves of one tile by whether it repeats
abbrev pub tile_moves : Bool → ℤ → ℕ → ℤ → ℤ
tile_moves b width n over = cond b (pos (suc n) *ℤ width -ℤ pos n *ℤ over) width

pub map-replicate : {X Y : Type 0} (f : X → Y) (n : ℕ) (x : X) → map f (replicate n x) ≡ replicate n (f x)
map-replicate f zero x = refl
map-replicate f (suc n) x = cc (map-replicate f n x)

moves_if : (b : Bool) (c : Cell) (w o : ℤ) (n : ℕ)
    → moves (record { tile = c; move = w } ∷ cond b (replicate n (record { tile = c; move = w -ℤ o })) [])
    ≡ tile_moves b w n o
moves_if true c w o n =
    let copy : Copy = record { tile = c; move = w -ℤ o } in
    let rest : total (map (λ copy. copy.move) (replicate n copy)) ≡ pos n *ℤ (w -ℤ o) =
    search (map-replicate, total-replicate) in
    omega (arith, ints, total_cons w (map (λ copy. copy.move) (replicate n copy)), times_sum n w (neg_ℤ o), times_neg n o)
moves_if false c w o n = omega (arith, ints)

pub moves-append : (xs ys : List Copy) → moves (xs ++ ys) ≡ moves xs +ℤ moves ys
moves-append = search (map-append, total-append)

total_if : {X : Type 0} (f : X → ℤ) (b : Bool) (c : X) (ys : List X) → total (map f (cond b (c ∷ ys) ys))
    ≡ cond b (f c +ℤ total (map f ys)) (total (map f ys))
total_if f true c ys = total_cons (f c) (map f ys)
total_if f false c ys = refl

pub length_if : {X : Type 0} (b : Bool) (c : X) (ys : List X)
    → length (cond b (c ∷ ys) ys) ≡ cond b (suc (length ys)) (length ys)
length_if true c ys = refl
length_if false c ys = refl

-- one tile more
one_more : (b : Bool) (w F R M o : ℤ) (k n : ℕ) → M ≡ F +ℤ (pos (suc n) *ℤ R -ℤ pos (n * k) *ℤ o)
    → M +ℤ tile_moves b w n o
    ≡ cond (not b) (w +ℤ F) F +ℤ (pos (suc n) *ℤ cond b (w +ℤ R) R -ℤ pos (n * cond b (suc k) k) *ℤ o)
one_more true w F R M o k n = omega (arith, ints, times_sum (suc n) w R)
one_more false w F R M o k n = omega (arith, ints)

tiles_moves : (font : Font) (z : TileSequence) (cs : List Cell) → moves (copies font z cs)
    ≡ total (map (width_of font) (fixed (glyphs_of cs))) +ℤ
    (pos (suc (times_added z)) *ℤ total (map (width_of font) (repeating (glyphs_of cs))) -ℤ pos
    (times_added z * length (repeating (glyphs_of cs))) *ℤ overlap z)
tiles_moves font z [] = search (arith, ints)
tiles_moves font z (c ∷ cs) =
    let w = width_of font c.0 in
    cc (
      reverse_onto cs c [],
      flat_map-append (copies_of font z) (reverse cs) (c ∷ []),
      moves-append (copies font z cs) (copies_of font z c ++ []),
      append-nil (copies_of font z c),
      moves_if (repeats c.0) c w (overlap z) (times_added z),
      one_more (repeats c.0) w (total (map (width_of font) (fixed (glyphs_of cs))))
          (total (map (width_of font) (repeating (glyphs_of cs)))) (moves (copies font z cs)) (overlap z)
          (length (repeating (glyphs_of cs))) (times_added z) (tiles_moves font z cs),
      total_if (width_of font) (not (repeats c.0)) c.0 (fixed (glyphs_of cs)),
      total_if (width_of font) (repeats c.0) c.0 (repeating (glyphs_of cs)),
      length_if (repeats c.0) c.0 (repeating (glyphs_of cs)),
    )

pub moves_hold : (font : Font) (part : List Cell) → moves (copies font (sequence_of_part font part) (tiles_of part))
    ≡ laid_width (sequence_of_part font part)
moves_hold font part = omega (arith, ints, tiles_moves font (sequence_of_part font part) (tiles_of part))

-- without a tile that repeats they have no width
no_repeating : (font : Font) (gs : Glyphs) → pos 0 <ℤ total (map (width_of font) gs) → 0 < length gs
no_repeating font [] = search arith
no_repeating font (g ∷ gs) = omega arith

pub widths_hold : (font : Font) (part : List Cell) → TilesFit (sequence_of_part font part)
    → CoversTheWord (sequence_of_part font part)
widths_hold font part fits = search (covers, no_repeating)
