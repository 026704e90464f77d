-- What the first pass finds: of copies at equal distances the ends tell, and a sequence's moves are those of its tiles.
use Rattle.std.proofs.Common.{◌≡◌, ℕ, zero, suc, ◌+◌, ◌*◌, ◌^◌, ◌<◌, ◌≤◌, FitsSigned, ℤ, pos, negsuc, neg_ℤ, ◌+ℤ◌, ◌-ℤ◌, ◌*ℤ◌, ◌≤ℤ◌, Bool, true, false, cond, ◌&&◌, List, [], ◌∷◌, ◌++◌, length, replicate, Option, None, Some, take, get_or, refl, arith}
use Rattle.std.proofs.lemmas.Int.{ints}
use mir.Syntax.{w32}
use Rattle.std.proofs.lemmas.List.{reverse-append, take_more}
use borrow.Author.Tests.{clash}
use Rattle.shapers_buffer.specs.Glyphs.{Glyph, Glyphs}
use Rattle.shapers_base.specs.Font.{Font}
use Rattle.shapers_stretch.specs.Cells.{repeats}
use Rattle.shapers_stretch.specs.Stretch.{width_of}
use Rattle.shapers_stretch.specs.declared.ot_shaper_arabic_stretch.measuring.Lay.{Lay}
use Rattle.shapers_stretch.specs.CountingWalk.{IsNumber, WalksPen, last_at, moves_of, offsets_fit, offsets_on, pen_behind, sequence_moves, stands_at}
use Rattle.shapers_stretch.specs.Measure.{fits_i32, total}
use Rattle.std.proofs.lemmas.List.Folds.{list_all-append}
use Rattle.shapers_stretch.proofs.Steps.{stepping, stepping_fits}
use Rattle.shapers_stretch.proofs.Sums.{times_sum, total_cons, total-append, total-replicate, times_neg}

leftward : (pen step : ℤ) (n : ℕ) → offsets_on true pen (replicate (suc n) step) ≡ stepping (pen -ℤ step) (neg_ℤ step) n
leftward pen step zero = refl
leftward pen step (suc n) = cc (leftward (pen -ℤ step) step n)

rightward : (pen step : ℤ) (n : ℕ) → offsets_on false pen (replicate (suc n) step) ≡ stepping pen step n
rightward pen step zero = refl
rightward pen step (suc n) = cc (rightward (pen +ℤ step) step n)

-- the offsets of equal copies fit exactly if those of the first and the last do
ends_tell : (right_to_left : Bool) (pen step : ℤ) (n : ℕ) → offsets_fit right_to_left pen (replicate (suc n) step)
    ≡ (fits_i32 (stands_at right_to_left pen step)
    && fits_i32 (last_at right_to_left (pen_behind right_to_left pen (pos (suc n) *ℤ step)) step))
ends_tell true pen step n =
    let last : (pen -ℤ step) +ℤ pos n *ℤ neg_ℤ step ≡ pen -ℤ pos (suc n) *ℤ step =
    omega (arith, ints, times_neg n step) in
    cc (leftward pen step n, stepping_fits (pen -ℤ step) (neg_ℤ step) n)
ends_tell false pen step n =
    let last : pen +ℤ pos n *ℤ step ≡ (pen +ℤ pos (suc n) *ℤ step) -ℤ step = omega (arith, ints) in
    cc (rightward pen step n, stepping_fits pen step n)

-- a pen behind copies of which the last one fits
number_behind : (right_to_left : Bool) (behind step : ℤ) → fits_i32 (last_at right_to_left behind step) ≡ true
    → negsuc (2 ^ 36) ≤ℤ step → step ≤ℤ pos (2 ^ 36) → IsNumber behind
number_behind _ = search arith

tells : (right_to_left : Bool) (pen step behind : ℤ) (count : ℕ) → 0 < count
    → behind ≡ pen_behind right_to_left pen (pos count *ℤ step) → offsets_fit right_to_left pen (replicate count step)
    ≡ (fits_i32 (stands_at right_to_left pen step) && fits_i32 (last_at right_to_left behind step))
tells right_to_left pen step behind zero p e = absurd (omega arith)
tells right_to_left pen step behind (suc n) p e = search (arith, ends_tell)

pub copies_walked : (right_to_left : Bool) (pen step behind : ℤ) (count : ℕ) → 0 < count
    → behind ≡ pen_behind right_to_left pen (pos count *ℤ step)
    → (fits_i32 (stands_at right_to_left pen step) && fits_i32 (last_at right_to_left behind step)) ≡ true
    → negsuc (2 ^ 36) ≤ℤ step → step ≤ℤ pos (2 ^ 36) → WalksPen right_to_left pen (replicate count step) (Some behind)
copies_walked = search (arith, tells, total-replicate, number_behind)

pub copies_stopped : (right_to_left : Bool) (pen step behind : ℤ) (count : ℕ) → 0 < count
    → behind ≡ pen_behind right_to_left pen (pos count *ℤ step)
    → (fits_i32 (stands_at right_to_left pen step) && fits_i32 (last_at right_to_left behind step)) ≡ false
    → WalksPen right_to_left pen (replicate count step) None
copies_stopped = search (arith, tells)

-- how far copies that each move the pen by a width less an overlap move it together
pub widths_within : (n : ℕ) (w : ℤ) → FitsSigned w32 w → (neg_ℤ (pos (2147483648 * n)) ≤ℤ (pos n *ℤ w))
    × ((pos n *ℤ w) ≤ℤ pos (2147483648 * n))
widths_within zero w f = search arith
widths_within (suc n) w f = let before = widths_within n w f in search (arith, ints)

pub far_moves : (n : ℕ) (w o step : ℤ) → n ≤ 2 ^ 31 → FitsSigned w32 w → pos 0 ≤ℤ o → (pos n *ℤ o) ≤ℤ pos (2 ^ 34)
    → step ≡ w -ℤ o → (negsuc (3 * 2 ^ 61) ≤ℤ (pos n *ℤ step)) × ((pos n *ℤ step) ≤ℤ pos (3 * 2 ^ 61))
far_moves n w o step few f up most e =
    let sum : pos n *ℤ step ≡ pos n *ℤ w +ℤ neg_ℤ (pos n *ℤ o) = search (arith, times_sum) in
    let width = widths_within n w f in
    (search (arith, ints), search (arith, ints))

-- the same of one copy
number_after : (right_to_left : Bool) (pen step : ℤ) → fits_i32 (stands_at right_to_left pen step) ≡ true
    → negsuc (2 ^ 36) ≤ℤ step → step ≤ℤ pos (2 ^ 36) → IsNumber (pen_behind right_to_left pen step)
number_after _ = search arith

pub copy_walked : (right_to_left : Bool) (pen step behind : ℤ) → behind ≡ pen_behind right_to_left pen step
    → fits_i32 (stands_at right_to_left pen step) ≡ true → negsuc (2 ^ 36) ≤ℤ step → step ≤ℤ pos (2 ^ 36)
    → WalksPen right_to_left pen (step ∷ []) (Some behind)
copy_walked = search arith

no_move : (right_to_left : Bool) (pen : ℤ) → pen_behind right_to_left pen (pos 0) ≡ pen
no_move true = omega (arith, ints)
no_move false = omega (arith, ints)

then_move : (right_to_left : Bool) (pen a b : ℤ) → pen_behind right_to_left (pen_behind right_to_left pen a) b
    ≡ pen_behind right_to_left pen (a +ℤ b)
then_move true = omega (arith, ints)
then_move false = omega (arith, ints)

offsets_on-append : (right_to_left : Bool) (pen : ℤ) (xs ys : List ℤ) → offsets_on right_to_left pen (xs ++ ys)
    ≡ offsets_on right_to_left pen xs ++ offsets_on right_to_left (pen_behind right_to_left pen (total xs)) ys
offsets_on-append right_to_left pen [] ys = search arith
offsets_on-append right_to_left pen (x ∷ xs) ys =
    search (then_move, total_cons, offsets_on-append right_to_left (pen_behind right_to_left pen x) xs ys)

offsets_fit-append : (right_to_left : Bool) (pen : ℤ) (xs ys : List ℤ) → offsets_fit right_to_left pen (xs ++ ys)
    ≡ (offsets_fit right_to_left pen xs && offsets_fit right_to_left (pen_behind right_to_left pen (total xs)) ys)
offsets_fit-append = search (offsets_on-append, list_all-append)

-- moves and then others
pub walks_then : (right_to_left : Bool) (pen : ℤ) (xs ys : List ℤ) (behind : ℤ) (r : Option ℤ)
    → WalksPen right_to_left pen xs (Some behind) → WalksPen right_to_left behind ys r
    → WalksPen right_to_left pen (xs ++ ys) r
walks_then right_to_left pen xs ys behind None = search (arith, offsets_fit-append)
walks_then right_to_left pen xs ys behind (Some last) = search (arith, offsets_fit-append, then_move, total-append)

-- the copies of one tile, the first and then the added ones
tile_if : (b : Bool) (right_to_left : Bool) (pen width step behind : ℤ) (n : ℕ) (r : Option ℤ) → b ≡ true
    → WalksPen right_to_left pen (width ∷ []) (Some behind) → WalksPen right_to_left behind (replicate n step) r
    → WalksPen right_to_left pen (width ∷ cond b (replicate n step) []) r
tile_if true right_to_left pen width step behind n r e first rest =
    walks_then right_to_left pen (width ∷ []) (replicate n step) behind r first rest
tile_if false right_to_left pen width step behind n r e first rest = absurd (clash e)

pub tile_walked : (font : Font) (lay : Lay) (g : Glyph) (right_to_left : Bool) (pen width step behind : ℤ)
    (r : Option ℤ) → repeats g ≡ true → width ≡ width_of font g → step ≡ width -ℤ lay.overlap
    → WalksPen right_to_left pen (width ∷ []) (Some behind) → WalksPen right_to_left behind (replicate lay.added step) r
    → WalksPen right_to_left pen (moves_of font lay g) r
tile_walked = search (arith, tile_if)

-- the last tile of a sequence is laid first
run_moves_more : (font : Font) (lay : Lay) (tiles : Glyphs) (i : ℕ) (d : Glyph)
    → i < length tiles → sequence_moves font lay (take (i + 1) tiles) ≡ moves_of font lay (get_or tiles i d)
    ++ sequence_moves font lay (take i tiles)
run_moves_more font lay tiles i d p = search (take_more tiles i d p, reverse-append)

pub fits_next : (font : Font) (lay : Lay) (right_to_left : Bool) (pen behind : ℤ) (tiles : Glyphs) (i : ℕ) (d : Glyph)
    → i < length tiles → WalksPen right_to_left pen (moves_of font lay (get_or tiles i d)) (Some behind)
    → offsets_fit right_to_left behind (sequence_moves font lay (take i tiles))
    ≡ offsets_fit right_to_left pen (sequence_moves font lay (take (i + 1) tiles))
fits_next font lay right_to_left pen behind tiles i d p w = cc (run_moves_more font lay tiles i d p, offsets_fit-append right_to_left pen (moves_of font lay (get_or tiles i d)) (sequence_moves font lay (take i tiles)))

pub fits_not : (font : Font) (lay : Lay) (right_to_left : Bool) (pen : ℤ) (tiles : Glyphs) (i : ℕ)
    (d : Glyph) → i < length tiles → offsets_fit right_to_left pen (moves_of font lay (get_or tiles i d))
    ≡ false → offsets_fit right_to_left pen (sequence_moves font lay (take (i + 1) tiles)) ≡ false
fits_not font lay right_to_left pen tiles i d p =
    search (arith, run_moves_more font lay tiles i d p, offsets_fit-append)
