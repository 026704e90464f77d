-- How much longer a stretched part is, and when a number of it doesn't fit.
use Rattle.std.proofs.Common.{◌≡◌, ◌<◌, ◌≤◌, ◌+◌, ◌-◌, ◌*◌, ℕ, suc, ℤ, Bool, true, false, cond, not, ◌&&◌, ◌||◌, List, [], ◌∷◌, ◌++◌, length, map, take, drop, flat_map, replicate, None, Some, refl, sym, ◌∙◌, ap, arith, length-append, length-drop, length-take-le}
use Rattle.std.specs.List.{list_all, suffix_len, zip, take-map}
use Rattle.std.proofs.lemmas.List.{append-nil, length-map, map-append, drop-map, take-append-drop, take_all, drop-take, length-reverse, take-take}
use Rattle.std.proofs.lemmas.List.Concat.{flat_map-append}
use Rattle.std.proofs.lemmas.List.Folds.{list_all-append, list_any-append}
use Rattle.std.proofs.Math.Seq.{drop-append_seam}
use Rattle.std.proofs.lemmas.Option.{none-some}
use borrow.Author.Tests.{clash}
use Rattle.shapers_buffer.specs.declared.buffer.glyph.GlyphPosition.{GlyphPosition}
use Rattle.shapers_buffer.specs.Glyphs.{Glyph, Glyphs}
use Rattle.shapers_buffer.specs.GlyphFlags.{flagged, with_bits, with_bits_off}
use Rattle.shapers_buffer.specs.Clusters.{least}
use Rattle.shapers_buffer.specs.Glyph.{clusters}
use Rattle.shapers_buffer.proofs.MappedLists.{map-reverse}
use Rattle.shapers_base.specs.declared.plan.arabic.StretchStart.{StretchStart}
use Rattle.shapers_base.specs.Font.{Font}
use Rattle.shapers_stretch.specs.Cells.{Cell, before_tiles, before_word, glyphs_of, in_word, is_tile, parts_of_text, positions_of, repeats, tiles_of, word_of}
use Rattle.shapers_stretch.specs.CountingWalk.{IsCounted, moves_of, offsets_fit, offsets_on, pen_behind, sequence_added, sequence_moves}
use Rattle.shapers_stretch.specs.declared.ot_shaper_arabic_stretch.measuring.TileSequence.{TileSequence}
use Rattle.shapers_stretch.specs.Lays.{lay_of}
use Rattle.shapers_stretch.specs.Measure.{times_added, copies_added, fits_i32, numbers_to_fit, start}
use Rattle.shapers_stretch.specs.Stretch.{Copy, Laying, copies, copies_of, has_sequence, measured, overflows, part_overflows, repeating, sequence_of_part, stretched, stretched_over, stretched_part, unbroken}
use Rattle.shapers_stretch.proofs.LastParts.{LastPartAt, last_part_at}
use Rattle.shapers_stretch.proofs.Lengths.{length-copies, length-laid}
use Rattle.shapers_stretch.proofs.Zips.{length-zipped, zip-take}
use Rattle.shapers_stretch.proofs.Pen.{laid_is, laid_on}
use Rattle.shapers_stretch.proofs.Moves.{map-replicate}
use Rattle.shapers_stretch.proofs.Zips.{length-zipped}

-- glyphs beside positions
pub glyphs_zip : (gs : Glyphs) (ps : List GlyphPosition) → length gs ≡ length ps → glyphs_of (zip gs ps) ≡ gs
glyphs_zip [] ps e = refl
glyphs_zip (g ∷ gs) [] e = absurd (omega arith)
glyphs_zip (g ∷ gs) (p ∷ ps) e = cc (glyphs_zip gs ps (omega arith))

pub positions_zip : (gs : Glyphs) (ps : List GlyphPosition) → length gs ≡ length ps → positions_of (zip gs ps) ≡ ps
positions_zip [] [] e = refl
positions_zip (g ∷ gs) (p ∷ ps) e = cc (positions_zip gs ps (omega arith))
positions_zip _ _ e = absurd (omega arith)

-- flags change no tile
flag_if : (b : Bool) (bits : ℕ) (g : Glyph) → repeats (cond b g (with_bits bits g)) ≡ repeats g
flag_if true bits g = refl
flag_if false bits g = refl

filter_if : (b c : Bool) (g h : Glyph) (gs hs : Glyphs) → b ≡ c → length gs ≡ length hs
    → length (cond b (g ∷ gs) gs) ≡ length (cond c (h ∷ hs) hs)
filter_if true true g h gs hs e l = ap suc l
filter_if false false g h gs hs e l = l
filter_if true false g h gs hs e l = absurd (clash (sym e))
filter_if false true g h gs hs e l = absurd (clash e)

as_many_repeat : (bits m : ℕ) (gs : Glyphs) → length (repeating (map (with_bits_off bits m) gs))
    ≡ length (repeating gs)
as_many_repeat bits m [] = refl
as_many_repeat bits m (g ∷ gs) = search (arith, as_many_repeat bits m gs)

unbroken_glyphs : (cs : List Cell) → glyphs_of (unbroken cs) ≡ flagged 3 (glyphs_of cs)
unbroken_glyphs = search (glyphs_zip, length-map)

pub length-unbroken : (cs : List Cell) → length (unbroken cs) ≡ length cs
length-unbroken = search (arith, length-map, unbroken_glyphs)

run_repeats : (word tiles : List Cell) → length (repeating (glyphs_of (drop (length word) (unbroken (word ++ tiles)))))
    ≡ length (repeating (glyphs_of tiles))
run_repeats word tiles =
    let all = glyphs_of (word ++ tiles) in
    let m = least (clusters all) in
    cc (
      drop-map (λ c. c.0) (length word) (unbroken (word ++ tiles)),
      unbroken_glyphs (word ++ tiles),
      drop-map (with_bits_off 3 m) (length word) all,
      drop-map (λ c. c.0) (length word) (word ++ tiles),
      drop-append_seam word tiles,
      as_many_repeat 3 m (glyphs_of tiles),
    )

-- the word as long as before, and the sequence longer by its added copies
over_length : (how : Laying) (z : TileSequence) (word tiles : List Cell) → length (stretched_over how z word tiles)
    ≡ length word + (length tiles + times_added z * length (repeating (glyphs_of tiles)))
over_length how z word tiles =
    let whole = unbroken (word ++ tiles) in
    let long : length whole ≡ length word + length tiles = search (length-unbroken, length-append) in
    search (arith, length-append, length-take-le, length-reverse, length-laid, length-copies, length-drop, run_repeats)

part_length : (part : List Cell)
    → length part ≡ length (before_word part) + (length (word_of part) + length (tiles_of part))
part_length part =
    let whole : length (before_tiles part) + length (tiles_of part) ≡ length part =
    cc (length-append (before_tiles part) (tiles_of part), take-append-drop _ part) in
    let front : length (before_word part) + length (word_of part) ≡ length (before_tiles part) =
    cc (length-append (before_word part) (word_of part), take-append-drop _ (before_tiles part)) in
    omega arith

pub run_length : (how : Laying) (part : List Cell) → has_sequence part ≡ true → length (stretched_part how part)
    ≡ length part + copies_added (sequence_of_part how.font part)
run_length how part =
    let z = sequence_of_part how.font part in
    search (
      arith,
      length-append (before_word part) (stretched_over how z (word_of part) (tiles_of part)),
      over_length how z (word_of part) (tiles_of part),
      part_length part,
    )

pub no_run_length : (how : Laying) (part : List Cell) → has_sequence part ≡ false → stretched_part how part ≡ part
no_run_length how part e = cc

-- the offsets of a laid list, from the moves of its copies alone
on_offsets : (right_to_left : Bool) (pen : ℤ) (cs : List Copy) → map (λ c. c.1.x_offset) (laid_on right_to_left pen cs)
    ≡ offsets_on right_to_left pen (map (λ copy. copy.move) cs)
on_offsets right_to_left pen [] = refl
on_offsets right_to_left pen (c ∷ cs) = cc (on_offsets right_to_left (pen_behind right_to_left pen c.move) cs)

moves_if : (b : Bool) (n : ℕ) (copy : Copy) → map (λ copy. copy.move) (cond b (replicate n copy) [])
    ≡ cond b (replicate n copy.move) []
moves_if true n copy = search map-replicate
moves_if false n copy = refl

tile_moves : (choice : StretchStart) (right_to_left : Bool) (font : Font) (z : TileSequence) (c : Cell)
    → map (λ copy. copy.move) (copies_of font z c) ≡ moves_of font (lay_of choice right_to_left z) c.0
tile_moves = search moves_if

flat_moves : (choice : StretchStart) (right_to_left : Bool) (font : Font) (z : TileSequence) (cs : List Cell)
    → map (λ copy. copy.move) (flat_map (copies_of font z) cs)
    ≡ flat_map (moves_of font (lay_of choice right_to_left z)) (glyphs_of cs)
flat_moves choice right_to_left font z [] = refl
flat_moves choice right_to_left font z (c ∷ cs) = cc (
  map-append (λ copy. copy.move) (copies_of font z c) (flat_map (copies_of font z) cs),
  tile_moves choice right_to_left font z c,
  flat_moves choice right_to_left font z cs,
)

pub moved_copies : (how : Laying) (z : TileSequence) (tiles : List Cell) → map (λ copy. copy.move) (copies how.font z tiles)
    ≡ sequence_moves how.font (lay_of how.choice how.right_to_left z) (glyphs_of tiles)
moved_copies how z tiles = search (flat_moves, map-reverse)

-- whether all numbers of a part's sequence fit
abbrev all_fit : Laying → TileSequence → Glyphs → Bool
all_fit how z tiles = list_all fits_i32 (numbers_to_fit how.choice z)
    && offsets_fit how.right_to_left (start how.choice how.right_to_left z)
    (sequence_moves how.font (lay_of how.choice how.right_to_left z) tiles)

lost_if : (b : Bool) (m : ℕ) → cond b (Some m) None ≡ None → b ≡ false
lost_if true m e = absurd (none-some m (sym e))
lost_if false m e = refl

-- a text counted up to its last part
no_or : (b : Bool) → (b || false) ≡ b
no_or true = refl
no_or false = refl

last_overflows : (how : Laying) (cs front part : List Cell) → parts_of_text cs ≡ parts_of_text front ++ part ∷ []
    → overflows how cs ≡ (overflows how front || (part_overflows how part || false))
last_overflows = search (arith, list_any-append)

counted_by : (how : Laying) (cs : List Cell) (s n : ℕ) → s ≤ length cs → parts_of_text cs ≡ parts_of_text (take s cs)
    ++ drop s cs ∷ [] → part_overflows how (drop s cs) ≡ false → length (stretched_part how (drop s cs))
    ≡ length (drop s cs) + n → IsCounted how cs s n
counted_by how cs s n p e fits long =
    let front = stretched how (take s cs) in
    let whole : length (stretched how cs) ≡ length front + length (stretched_part how (drop s cs)) =
    search (arith, flat_map-append, append-nil, length-append front (stretched_part how (drop s cs))) in
    search (arith, last_overflows how cs (take s cs) (drop s cs) e, length-drop s cs)

has_tiles : (part tiles : List Cell) → tiles_of part ≡ tiles → 0 < length tiles → has_sequence part ≡ true
has_tiles = search arith

no_tiles : (part tiles : List Cell) → tiles_of part ≡ tiles → length tiles ≡ 0 → has_sequence part ≡ false
no_tiles part tiles e none = search

-- a last part without tiles
pub counted_plain : (how : Laying) (cs : List Cell) (s w t : ℕ) → LastPartAt cs s w t → length cs ≤ t
    → IsCounted how cs s 0
counted_plain how cs s w t at most =
    let part = drop s cs in
    let without : has_sequence part ≡ false = search (arith, length-drop) in
    let fits : part_overflows how part ≡ false =
    cc in
    counted_by how cs s 0 (omega arith) at.parted fits (search arith)

-- the sequence of a last part, by what the slices give of it
run_at : (how : Laying) (cs : List Cell) (s w t : ℕ) → LastPartAt cs s w t → sequence_of_part how.font (drop s cs)
    ≡ measured how.font (positions_of (drop w (take t cs))) (glyphs_of (drop t cs))
run_at = search arith

fit_at : (how : Laying) (cs : List Cell) (s w t : ℕ) → LastPartAt cs s w t → t < length cs
    → part_overflows how (drop s cs)
    ≡ not (all_fit how (measured how.font (positions_of (drop w (take t cs))) (glyphs_of (drop t cs)))
    (glyphs_of (drop t cs)))
fit_at = search (arith, list_all-append, laid_is, on_offsets, moved_copies, has_tiles, length-drop)

pub counted_run : (how : Laying) (cs : List Cell) (s w t n : ℕ) → LastPartAt cs s w t → t < length cs
    → sequence_added how.choice how.right_to_left how.font
    (measured how.font (positions_of (drop w (take t cs))) (glyphs_of (drop t cs))) (glyphs_of (drop t cs)) ≡ Some n
    → IsCounted how cs s n
counted_run how cs s w t n at less e =
    let part = drop s cs in
    let z = measured how.font (positions_of (drop w (take t cs))) (glyphs_of (drop t cs)) in
    let many : copies_added (sequence_of_part how.font part) ≡ n = search arith in
    counted_by how cs s n (omega arith) at.parted
    (search (arith, fit_at)) (omega (arith, run_length how part (search (arith, has_tiles, length-drop))))

pub uncounted_run : (how : Laying) (cs : List Cell) (s w t : ℕ) → LastPartAt cs s w t → t < length cs
    → sequence_added how.choice how.right_to_left how.font
    (measured how.font (positions_of (drop w (take t cs))) (glyphs_of (drop t cs))) (glyphs_of (drop t cs)) ≡ None
    → overflows how cs ≡ true
uncounted_run how cs s w t at less e =
    let z = measured how.font (positions_of (drop w (take t cs))) (glyphs_of (drop t cs)) in
    search (arith, last_overflows how cs (take s cs) (drop s cs) at.parted, fit_at how cs s w t at less)

-- the same of a list of glyphs and one of positions
pub last_part_zipped : (gs : Glyphs) (ps : List GlyphPosition) (s w t : ℕ) → length gs ≡ length ps
    → 0 < length gs → t + suffix_len is_tile gs ≡ length gs → w + suffix_len in_word (take t gs) ≡ t
    → s + suffix_len (λ g. not (is_tile g)) (take w gs) ≡ w → LastPartAt (zip gs ps) s w t
last_part_zipped = search (glyphs_zip, last_part_at, length-zipped)

pub tiles_zipped : (gs : Glyphs) (ps : List GlyphPosition) (t : ℕ) → length gs ≡ length ps
    → glyphs_of (drop t (zip gs ps)) ≡ drop t gs
tiles_zipped gs ps t both = cc (drop-map (λ c. c.0) t (zip gs ps), glyphs_zip gs ps both)

-- and as the code cuts them
sliced_word : (gs : Glyphs) (ps : List GlyphPosition) (w t : ℕ) → length gs ≡ length ps → w ≤ t
    → take (t - w) (drop w ps) ≡ positions_of (drop w (take t (zip gs ps)))
sliced_word gs ps w t both h = sym (drop-take w (t - w) ps) ∙ ap (λ n. drop w (take n ps)) (omega arith) ∙ sym
    (sym (drop-map (λ c. c.1) w (take t (zip gs ps))) ∙ ap (drop w) (sym (take-map (λ c. c.1) t (zip gs ps)) ∙ ap
    (take t) (positions_zip gs ps both)))

pub run_sliced : (how : Laying) (gs : Glyphs) (ps : List GlyphPosition) (w t : ℕ) → length gs ≡ length ps
    → w ≤ t → sequence_added how.choice how.right_to_left how.font
    (measured how.font (positions_of (drop w (take t (zip gs ps)))) (glyphs_of (drop t (zip gs ps))))
    (glyphs_of (drop t (zip gs ps))) ≡ sequence_added how.choice how.right_to_left how.font
    (measured how.font (take (t - w) (drop w ps)) (take (length gs - t) (drop t gs))) (take (length gs - t) (drop t gs))
run_sliced = search (arith, take_all, length-drop, tiles_zipped, sliced_word)

-- nothing counted yet, one part more, and all
pub counted_start : (how : Laying) (gs : Glyphs) (ps : List GlyphPosition) → length gs ≡ length ps
    → IsCounted how (zip gs ps) (length gs) 0
counted_start how gs ps both = let long = length-zipped gs ps both in search (arith, take_all)

counted_then : (how : Laying) (cs : List Cell) (end many start n : ℕ) → IsCounted how cs end many
    → IsCounted how (take end cs) start n → IsCounted how cs start (many + n)
counted_then how cs end many start n first =
    let upto : length (take end cs) ≡ end = length-take-le end cs first.within in search (arith, take-take)

pub counted_more : (how : Laying) (gs : Glyphs) (ps : List GlyphPosition) (end many start n : ℕ)
    → IsCounted how (zip gs ps) end many → IsCounted how (zip (take end gs) (take end ps)) start n
    → IsCounted how (zip gs ps) start (many + n)
counted_more = search (counted_then, zip-take)
