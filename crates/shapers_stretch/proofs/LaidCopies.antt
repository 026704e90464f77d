-- Copies laid one after another.
use Rattle.std.proofs.Common.{◌-ℤ◌, ◌≡◌, ◌≤◌, ◌<◌, ◌+◌, ◌-◌, ℕ, suc, ℤ, pos, Bool, true, false, ◌&&◌, List, [], ◌∷◌, ◌++◌, length, drop, set, reverse, replicate, sym, ◌∙◌, ap, arith, FitsSigned}
use mir.Syntax.{w64}
use Rattle.std.specs.List.{zip, list_all}
use Rattle.std.proofs.lemmas.Int.{ints}
use Rattle.std.proofs.lemmas.List.{append_assoc, length-append, reverse-append, map-append, take-set, drop-set, take-take}
use Rattle.std.proofs.lemmas.List.Folds.{list_all-append}
use Rattle.std.proofs.lemmas.Bool.{and_parts}
use Rattle.shapers_buffer.specs.declared.buffer.glyph.GlyphPosition.{GlyphPosition}
use Rattle.shapers_buffer.specs.Glyphs.{Glyphs}
use Rattle.shapers_stretch.specs.declared.ot_shaper_arabic_stretch.tiles.Pen.{Pen}
use Rattle.shapers_base.specs.Font.{Font}
use Rattle.shapers_stretch.specs.declared.ot_shaper_arabic_stretch.measuring.Lay.{Lay}
use Rattle.shapers_stretch.specs.Cells.{Cell, repeats}
use Rattle.shapers_stretch.specs.CountingWalk.{IsNumber, pen_behind, stands_at}
use Rattle.shapers_stretch.specs.LayingWalk.{CanLay, Lays, copies_by, laid_on, offsets}
use Rattle.shapers_stretch.specs.Measure.{fits_i32}
use Rattle.shapers_stretch.specs.Stretch.{Copy, moves, width_of}
use Rattle.shapers_stretch.proofs.Moves.{moves-append}
use Rattle.shapers_stretch.proofs.Pen.{laid_on-append}
use Rattle.shapers_stretch.proofs.Zips.{zip-set, length-zipped}

one_move : (right_to_left : Bool) (at : ℤ) (c : Copy) → pen_behind right_to_left at (moves (c ∷ []))
    ≡ pen_behind right_to_left at c.move
one_move = search arith

-- one copy
pub one_laid : (right_to_left : Bool) (copy : Copy) (pen : Pen) (gs : Glyphs) (ps : List GlyphPosition)
    (at x : ℤ) → CanLay right_to_left (copy ∷ []) pen gs ps → at ≡ pen_behind right_to_left pen.at copy.move
    → x ≡ stands_at right_to_left pen.at copy.move →
    let standing : GlyphPosition = record copy.tile.1 { x_advance = pos 0; x_offset = x } in
    Lays right_to_left (copy ∷ []) pen (record { at = at; place = pen.place - 1 }) (zip gs ps)
    (zip (set gs (pen.place - 1) copy.tile.0) (set ps (pen.place - 1) standing))
one_laid right_to_left copy pen gs ps at x can is_at is_x =
    let cells = zip gs ps in
    let i = pen.place - 1 in
    let standing : ℤ → GlyphPosition = λ x. record copy.tile.1 { x_advance = pos 0; x_offset = x } in
    let y : Cell = (copy.tile.0, standing x) in
    let next : i + 1 ≡ pen.place = omega arith in
    let now = zip-set gs ps i copy.tile.0 (standing x) in
    record {
      pen = search arith;
      place = next;
      kept = cc (take-set cells i y);
      behind = ap (drop i) now ∙ drop-set cells i y (search (arith, length-zipped)) ∙ ap (λ n. y ∷ drop n cells) next
          ∙ ap (λ x. (copy.tile.0, standing x) ∷ drop pen.place cells) is_x;
    }

pen_moved_all : (right_to_left : Bool) (at : ℤ) (xs ys : List Copy)
    → pen_behind right_to_left (pen_behind right_to_left at (moves xs)) (moves ys)
    ≡ pen_behind right_to_left at (moves (xs ++ ys))
pen_moved_all true at xs ys = omega (arith, ints, moves-append xs ys)
pen_moved_all false at xs ys = omega (arith, ints, moves-append xs ys)

-- copies, and then others
pub lays_then : (right_to_left : Bool) (xs ys : List Copy) (a b c : Pen) (old mid now : List Cell)
    → Lays right_to_left xs a b old mid → Lays right_to_left ys b c mid now → Lays right_to_left (xs ++ ys) a c old now
lays_then right_to_left xs ys a b c old mid now l m =
    let before : c.place ≤ b.place = omega arith in
    let first = laid_on right_to_left a.at xs in
    let second = laid_on right_to_left b.at ys in
    search (arith, pen_moved_all right_to_left a.at xs ys, length-append xs ys, take-take c.place b.place mid before, take-take c.place b.place old before, append_assoc (reverse second) (reverse first) (drop a.place old), laid_on-append right_to_left a.at xs ys, reverse-append first second)

offsets-append : (right_to_left : Bool) (at : ℤ) (xs ys : List Copy)
    → list_all fits_i32 (offsets (laid_on right_to_left at (xs ++ ys)))
    ≡ (list_all fits_i32 (offsets (laid_on right_to_left at xs))
    && list_all fits_i32 (offsets (laid_on right_to_left (pen_behind right_to_left at (moves xs)) ys)))
offsets-append = search (laid_on-append, map-append, list_all-append)

-- where copies can be laid, the first of them can, and behind these the others
pub can_first : (right_to_left : Bool) (xs ys : List Copy) (pen : Pen) (gs : Glyphs)
    (ps : List GlyphPosition) → CanLay right_to_left (xs ++ ys) pen gs ps → CanLay right_to_left xs pen gs ps
can_first right_to_left xs ys pen gs ps can = record {
  fits = (and_parts _ _ (sym (offsets-append right_to_left pen.at xs ys) ∙ can.fits)).0;
  room = search (arith, length-append);
  within = can.within;
  both = can.both;
}

pub can_rest : (right_to_left : Bool) (xs ys : List Copy) (pen after : Pen) (gs hs : Glyphs)
    (ps qs : List GlyphPosition) (old now : List Cell) → CanLay right_to_left (xs ++ ys) pen gs ps
    → Lays right_to_left xs pen after old now → length hs ≡ length gs → length hs ≡ length qs
    → CanLay right_to_left ys after hs qs
can_rest right_to_left xs ys pen after gs hs ps qs old now can laid same both = record {
  fits = ap (λ at. list_all fits_i32 (offsets (laid_on right_to_left at ys))) laid.pen
      ∙ (and_parts _ _ (sym (offsets-append right_to_left pen.at xs ys) ∙ can.fits)).1;
  room = search (arith, length-append);
  within = omega arith;
  both = both;
}

less : (count k : ℕ) → k < count → count - k ≡ suc (count - (k + 1))
less = omega arith

-- one more of so many copies
pub replicate_first : {X : Type 0} (count k : ℕ) (x : X) → k < count
    → replicate (count - k) x ≡ (x ∷ []) ++ replicate (count - (k + 1)) x
replicate_first count k x p = cc (less count k p)

-- a number far from the ends of its 64 bits fits them
pub near_fits : (x : ℤ) → IsNumber x → FitsSigned w64 x
near_fits _ = search arith

-- the copies of a tile, by whether it repeats
copies_once : (font : Font) (lay : Lay) (c : Cell) (one : Copy) → one ≡ record { tile = c; move = width_of font c.0 }
    → repeats c.0 ≡ false → copies_by font lay c ≡ one ∷ []
copies_once font lay c one e r = cc

copies_more : (font : Font) (lay : Lay) (c : Cell) (one two : Copy) (n : ℕ)
    → one ≡ record { tile = c; move = width_of font c.0 }
    → two ≡ record { tile = c; move = width_of font c.0 -ℤ lay.overlap } → n ≡ lay.added → repeats c.0 ≡ true
    → copies_by font lay c ≡ (one ∷ []) ++ replicate n two
copies_more font lay c one two n e f g r = cc

moving : (c : Cell) (w v : ℤ) → w ≡ v → ◌≡◌ {A = Copy} (record { tile = c; move = w }) (record { tile = c; move = v })
moving c w v e = ap (λ m. (record { tile = c; move = m })) e

-- the steps of laying a tile
tile_cut : (right_to_left : Bool) (font : Font) (lay : Lay) (c : Cell) (one : Copy) (pen : Pen)
    (gs : Glyphs) (ps : List GlyphPosition) → one ≡ record { tile = c; move = width_of font c.0 }
    → (b : Bool) → repeats c.0 ≡ b → CanLay right_to_left (copies_by font lay c) pen gs ps
    → CanLay right_to_left (one ∷ []) pen gs ps
tile_cut right_to_left font lay c one pen gs ps e _ = search arith

pub tile_first : (right_to_left : Bool) (font : Font) (lay : Lay) (c : Cell) (w : ℤ) (pen : Pen)
    (gs : Glyphs) (ps : List GlyphPosition) → w ≡ width_of font c.0
    → CanLay right_to_left (copies_by font lay c) pen gs ps
    → CanLay right_to_left (record { tile = c; move = w } ∷ []) pen gs ps
tile_first = search arith

pub tile_more : (right_to_left : Bool) (font : Font) (lay : Lay) (c : Cell) (w m : ℤ) (n : ℕ) (pen after : Pen)
    (gs hs : Glyphs) (ps qs : List GlyphPosition) (old now : List Cell) → repeats c.0 ≡ true
    → w ≡ width_of font c.0 → m ≡ width_of font c.0 -ℤ lay.overlap → n ≡ lay.added
    → CanLay right_to_left (copies_by font lay c) pen gs ps
    → Lays right_to_left (record { tile = c; move = w } ∷ []) pen after old now → length hs ≡ length gs
    → length hs ≡ length qs → CanLay right_to_left (replicate n (record { tile = c; move = m })) after hs qs
tile_more = search (arith, can_rest, copies_more)

pub tile_once : (right_to_left : Bool) (font : Font) (lay : Lay) (c : Cell) (w : ℤ) (pen after : Pen)
    (old now : List Cell) → repeats c.0 ≡ false → w ≡ width_of font c.0
    → Lays right_to_left (record { tile = c; move = w } ∷ []) pen after old now
    → Lays right_to_left (copies_by font lay c) pen after old now
tile_once = search arith

pub tile_all : (right_to_left : Bool) (font : Font) (lay : Lay) (c : Cell) (w m : ℤ) (n : ℕ) (pen mid after : Pen)
    (old between now : List Cell) → repeats c.0 ≡ true → w ≡ width_of font c.0 → m ≡ width_of font c.0 -ℤ lay.overlap
    → n ≡ lay.added → Lays right_to_left (record { tile = c; move = w } ∷ []) pen mid old between
    → Lays right_to_left (replicate n (record { tile = c; move = m })) mid after between now
    → Lays right_to_left (copies_by font lay c) pen after old now
tile_all right_to_left font lay c w m n pen mid after old between now r e f g first rest =
    let one : Copy = record { tile = c; move = w } in
    let two : Copy = record { tile = c; move = m } in
    search (arith, lays_then right_to_left (one ∷ []) (replicate n two) pen mid after old between now first rest)
